-- Report lines: what was spelled is read, and what is read is spelled so.
use Rattle.std.proofs.Common.{◌≡◌, ℕ, ◌<◌, false, Option, None, Some, List, [], ◌∷◌, ◌++◌, Result, Ok, Err, codes, decimal, drop, refl, sym, subst, ap, ◌∙◌, get_or, arith, lit≤}
use Rattle.std.proofs.lemmas.Slice.Eq.{bytes_eq-Decides}
use Rattle.drm_talk.specs.declared.Side.{Side}
use Rattle.drm_talk.specs.declared.Side.TheVariants.{Start, Goal}
use Rattle.drm_talk.specs.declared.Why.{Why}
use Rattle.drm_talk.specs.declared.Why.TheVariants.{Barred, Cell}
use Rattle.drm_talk.specs.declared.Answer.{Answer}
use Rattle.drm_talk.specs.declared.Answer.TheVariants.{Path, Cut, NoStart, NoGoal, Unsound}
use Rattle.drm_talk.specs.declared.Reply.{Reply}
use Rattle.drm_talk.specs.declared.Reply.TheVariants.{Put, Del, Slot, Full, Empty, Count, Absent, Memory, Sync, Limits, TickPut, TickDel, TickIdle, TickShape, TickSlot, TickFull, TickEmpty, Ask}
use Rattle.drm_script.specs.declared.replies.ReportLine.{ReportLine}
use Rattle.drm_script.specs.declared.replies.ReportLine.TheVariants.{Reply as reply, End as end}
use Rattle.drm_script.specs.declared.words.WordFault.{WordFault}
use Rattle.drm_script.specs.declared.words.WordFault.TheVariants.{Bad}
use Rattle.drm_script.specs.Limits.{slot_limit, number_limit, wide_limit, tried_limit, nodes_limit}
use Rattle.drm_script.specs.Log.{shape_words, number_words}
use Rattle.drm_script.specs.Report.{counted_words, side_words, why_words, tried_words, attached_words, label_words, answer_words, reply_words, IsWhyInRange, IsTriedInRange, AreTriedInRange, IsAttachedInRange, AreNodesInRange, IsLabelInRange, AreLabelsInRange, IsAnswerInRange, IsReplyInRange, ShowsValidShape}
use Rattle.drm_script.specs.Reader.{◌>>=◌, starts, slot_at, wide_at, number_at, pair_at}
use Rattle.drm_script.specs.ReportReading.{report_line_words, report_line_text, IsReportLine, LineHasValidShape, side_at, why_at, tried_at, all_tried_at, attached_at, nodes_at, label_at, labels_at, answer_of, tick_of, reply_of, report_line_in}
use Rattle.drm_script.proofs.NumberLemmas.{first_digit}
use Rattle.drm_script.proofs.TestLemmas.{false_from_not}
use Rattle.drm_script.proofs.ReaderLemmas.{ok_is, ok_err, bind_ok, kind_ok, no_kind, starts_is}
use Rattle.drm_script.proofs.LawLemmas.{Law, LastLaw, both, both_fit, plain_append, made_takes, slot_law, wide_law, number_law, pair_law, made_law, counted_law, at_again, at_kind, bare_at_kind, last_again, last_kind, bare_kind, then_again, then_kind}
use Rattle.drm_script.proofs.ActLemmas.{shape_law}
use Rattle.drm_script.proofs.RowLemmas.{ArePlain, IsRow, AreReadBack, AreTexts, are_texts}

-- ---- one of the configurations of an ask

side_again : (side : Side) (more : List (List ℕ)) → Unit {0} → side_at (side_words side ++ more) ≡ Ok (side, more)
unfolding side_at
side_again Start more fits = refl
side_again Goal more fits = refl

side_plain : (side : Side) → Unit {0} → ArePlain (side_words side)
side_plain Start fits = (refl, tt)
side_plain Goal fits = (refl, tt)

side_takes : (ws : List (List ℕ)) (side : Side) (more : List (List ℕ)) → side_at ws ≡ Ok (side, more) → (ws ≡ side_words side ++ more) × Unit {0}
unfolding side_at
side_takes ws side more h =
    let P : Side → List (List ℕ) → Type 0 = λ x more. (ws ≡ side_words x ++ more) × Unit {0} in
    bare_at_kind P (codes "start") ws Start side more _ (λ more is. (is, tt))
    (λ h1. bare_at_kind P (codes "goal") ws Goal side more _ (λ more is. (is, tt))
    (λ h2. no_kind _ (side, more) h2) h1) h

side_law : Law side_at side_words (λ side. Unit {0})
side_law = record { again = side_again; takes = side_takes; plain = side_plain }

-- ---- nodes that were refused, and ends of an ask

why_again : (why : Why) (more : List (List ℕ)) → IsWhyInRange why → why_at (why_words why ++ more) ≡ Ok (why, more)
unfolding why_at
why_again Barred more fits = refl
why_again (Cell cell) more fits = at_again number_law Cell cell more fits

why_plain : (why : Why) → IsWhyInRange why → ArePlain (why_words why)
why_plain Barred fits = (refl, tt)
why_plain (Cell cell) fits = (refl, number_law.plain cell fits)

why_takes : (ws : List (List ℕ)) (why : Why) (more : List (List ℕ)) → why_at ws ≡ Ok (why, more) → (ws ≡ why_words why ++ more) × IsWhyInRange why
unfolding why_at
why_takes ws why more h =
    let P : Why → List (List ℕ) → Type 0 = λ x more. (ws ≡ why_words x ++ more) × IsWhyInRange x in
    bare_at_kind P (codes "b") ws Barred why more _ (λ more is. (is, tt))
    (λ h1. at_kind number_law Cell P (codes "c") ws why more _ (λ x more f is. (is, f))
    (λ h2. no_kind _ (why, more) h2) h1) h

why_law : Law why_at why_words IsWhyInRange
why_law = record { again = why_again; takes = why_takes; plain = why_plain }

tried_law : Law tried_at tried_words IsTriedInRange
unfolding tried_at
tried_law = made_law (pair_law number_law why_law) (λ x. record { node = x.0; why = x.1 }) (λ t. (t.node, t.why)) (λ x. refl) (λ t. refl)

all_tried_law : Law all_tried_at (counted_words tried_words) AreTriedInRange
unfolding all_tried_at
all_tried_law = counted_law tried_limit (lit≤ tt) tried_law

attached_law : Law attached_at attached_words IsAttachedInRange
unfolding attached_at
attached_law = made_law (pair_law number_law all_tried_law) (λ x. record { node = x.0; tried = x.1 }) (λ e. (e.node, e.tried)) (λ x. refl) (λ e. refl)

-- ---- nodes and labels

nodes_law : Law nodes_at (counted_words number_words) AreNodesInRange
unfolding nodes_at
nodes_law = counted_law nodes_limit (lit≤ tt) number_law

no_dash : (n : ℕ) (more : List (List ℕ)) → n < wide_limit → starts (codes "-") (decimal n ∷ more) ≡ false
no_dash n more small = sym (false_from_not _ (λ h.
    omega (arith, first_digit n small, ap (λ (w : List ℕ). get_or w 0 0) ((bytes_eq-Decides (decimal n) (codes "-")).0 h))))

label_again : (label : Option ℕ) (more : List (List ℕ)) → IsLabelInRange label → label_at (label_words label ++ more) ≡ Ok (label, more)
unfolding label_at
label_again None more fits = refl
label_again (Some n) more fits = rw (no_dash n more fits) (at_again wide_law Some n more fits)

label_plain : (label : Option ℕ) → IsLabelInRange label → ArePlain (label_words label)
label_plain None fits = (refl, tt)
label_plain (Some n) fits = wide_law.plain n fits

label_takes : (ws : List (List ℕ)) (label : Option ℕ) (more : List (List ℕ)) → label_at ws ≡ Ok (label, more) → (ws ≡ label_words label ++ more) × IsLabelInRange label
unfolding label_at
label_takes ws label more h =
    let P : Option ℕ → List (List ℕ) → Type 0 = λ x more. (ws ≡ label_words x ++ more) × IsLabelInRange x in
    bare_at_kind P (codes "-") ws None label more _ (λ more is. (is, tt))
    (λ h1. made_takes wide_law Some P ws label more (λ x more f is. (is, f)) h1) h

label_law : Law label_at label_words IsLabelInRange
label_law = record { again = label_again; takes = label_takes; plain = label_plain }

labels_law : Law labels_at (counted_words label_words) AreLabelsInRange
unfolding labels_at
labels_law = counted_law nodes_limit (lit≤ tt) label_law

-- ---- answers: of each kind an equation, its words, and a case

path_law : Law (pair_at attached_at (pair_at attached_at (pair_at wide_at (pair_at nodes_at labels_at)))) (both attached_words (both attached_words (both number_words (both (counted_words number_words) (counted_words label_words))))) (both_fit IsAttachedInRange (both_fit IsAttachedInRange (both_fit (λ n. n < wide_limit) (both_fit AreNodesInRange AreLabelsInRange))))
path_law = pair_law attached_law (pair_law attached_law (pair_law wide_law (pair_law nodes_law labels_law)))

cut_law : Law (pair_at attached_at (pair_at attached_at nodes_at)) (both attached_words (both attached_words (counted_words number_words))) (both_fit IsAttachedInRange (both_fit IsAttachedInRange AreNodesInRange))
cut_law = pair_law attached_law (pair_law attached_law nodes_law)

unsound_law : Law (pair_at attached_at (pair_at attached_at (pair_at number_at number_at))) (both attached_words (both attached_words (both number_words number_words))) (both_fit IsAttachedInRange (both_fit IsAttachedInRange (both_fit (λ n. n < number_limit) (λ n. n < number_limit))))
unsound_law = pair_law attached_law (pair_law attached_law (pair_law number_law number_law))

answer_again : (answer : Answer) → IsAnswerInRange answer → answer_of (answer_words answer) ≡ Ok answer
unfolding answer_of
answer_again (Path start goal route nodes labels) fits = last_again path_law (λ x. Path x.0 x.1.0 x.1.1.0 x.1.1.1.0 x.1.1.1.1) (start, (goal, (route, (nodes, labels)))) (fits.0, (fits.1, (fits.2, (fits.3, fits.4))))
answer_again (Cut start goal side) fits = last_again cut_law (λ x. Cut x.0 x.1.0 x.1.1) (start, (goal, side)) (fits.0, (fits.1, fits.2))
answer_again (NoStart tried) fits = last_again all_tried_law NoStart tried fits
answer_again (NoGoal tried) fits = last_again all_tried_law NoGoal tried fits
answer_again (Unsound start goal edge cell) fits = last_again unsound_law (λ x. Unsound x.0 x.1.0 x.1.1.0 x.1.1.1) (start, (goal, (edge, cell))) (fits.0, (fits.1, (fits.2, fits.3)))

answer_plain : (answer : Answer) → IsAnswerInRange answer → ArePlain (answer_words answer)
answer_plain (Path start goal route nodes labels) fits = (refl, path_law.plain (start, (goal, (route, (nodes, labels)))) (fits.0, (fits.1, (fits.2, (fits.3, fits.4)))))
answer_plain (Cut start goal side) fits = (refl, cut_law.plain (start, (goal, side)) (fits.0, (fits.1, fits.2)))
answer_plain (NoStart tried) fits = (refl, all_tried_law.plain tried fits)
answer_plain (NoGoal tried) fits = (refl, all_tried_law.plain tried fits)
answer_plain (Unsound start goal edge cell) fits = (refl, unsound_law.plain (start, (goal, (edge, cell))) (fits.0, (fits.1, (fits.2, fits.3))))

answer_takes : (ws : List (List ℕ)) (answer : Answer) → answer_of ws ≡ Ok answer → (ws ≡ answer_words answer) × IsAnswerInRange answer
unfolding answer_of
answer_takes ws answer h =
    let P : Answer → Type 0 = λ x. (ws ≡ answer_words x) × IsAnswerInRange x in
    last_kind path_law (λ x. Path x.0 x.1.0 x.1.1.0 x.1.1.1.0 x.1.1.1.1) P (codes "path") ws answer _ (λ x f is. (is, (f.0, f.1.0, f.1.1.0, f.1.1.1.0, f.1.1.1.1)))
    (λ h1. last_kind cut_law (λ x. Cut x.0 x.1.0 x.1.1) P (codes "cut") ws answer _ (λ x f is. (is, (f.0, f.1.0, f.1.1)))
    (λ h2. last_kind all_tried_law NoStart P (codes "nostart") ws answer _ (λ x f is. (is, f))
    (λ h3. last_kind all_tried_law NoGoal P (codes "nogoal") ws answer _ (λ x f is. (is, f))
    (λ h4. last_kind unsound_law (λ x. Unsound x.0 x.1.0 x.1.1.0 x.1.1.1) P (codes "unsound") ws answer _ (λ x f is. (is, (f.0, f.1.0, f.1.1.0, f.1.1.1)))
    (λ h5. no_kind _ answer h5) h4) h3) h2) h1) h

answer_law : LastLaw answer_of answer_words IsAnswerInRange IsAnswerInRange
answer_law = record { again = answer_again; takes = answer_takes; plain = answer_plain }

-- ---- replies: of each kind an equation, its words, and a case

count_law : Law (pair_at number_at number_at) (both number_words number_words) (both_fit (λ n. n < number_limit) (λ n. n < number_limit))
count_law = pair_law number_law number_law

limits_law : Law (pair_at side_at number_at) (both side_words number_words) (both_fit (λ side. Unit {0}) (λ n. n < number_limit))
limits_law = pair_law side_law number_law

placed_law : Law (pair_at number_at slot_at) (both number_words number_words) (both_fit (λ n. n < number_limit) (λ n. n < slot_limit))
placed_law = pair_law number_law slot_law

reply_again : (r : Reply) → IsReplyInRange r → reply_of (reply_words r) ≡ Ok r
unfolding reply_of tick_of
reply_again (Put n) fits = last_again number_law Put n fits
reply_again (Del n) fits = last_again number_law Del n fits
reply_again Slot fits = refl
reply_again (Full n) fits = last_again number_law Full n fits
reply_again (Empty n) fits = last_again number_law Empty n fits
reply_again (Count n k) fits = last_again count_law (λ x. Count x.0 x.1) (n, k) fits
reply_again Absent fits = refl
reply_again Memory fits = refl
reply_again (Sync n) fits = last_again number_law Sync n fits
reply_again (Limits side joint) fits = last_again limits_law (λ x. Limits x.0 x.1) (side, joint) (tt, fits)
reply_again (TickPut n slot shape) fits = then_again placed_law shape_law (λ x shape. TickPut x.0 x.1 shape) (n, slot) shape (fits.0, fits.1) fits.2
reply_again (TickDel n slot) fits = last_again placed_law (λ x. TickDel x.0 x.1) (n, slot) fits
reply_again TickIdle fits = refl
reply_again TickShape fits = refl
reply_again TickSlot fits = refl
reply_again (TickFull n) fits = last_again number_law TickFull n fits
reply_again (TickEmpty n slot) fits = last_again placed_law (λ x. TickEmpty x.0 x.1) (n, slot) fits
reply_again (Ask n answer) fits = then_again number_law answer_law Ask n answer fits.0 fits.1

reply_row : (r : Reply) → IsReplyInRange r → IsRow (reply_words r)
reply_row (Put n) fits = (refl, number_law.plain n fits)
reply_row (Del n) fits = (refl, number_law.plain n fits)
reply_row Slot fits = (refl, tt)
reply_row (Full n) fits = (refl, number_law.plain n fits)
reply_row (Empty n) fits = (refl, number_law.plain n fits)
reply_row (Count n k) fits = (refl, count_law.plain (n, k) fits)
reply_row Absent fits = (refl, tt)
reply_row Memory fits = (refl, tt)
reply_row (Sync n) fits = (refl, number_law.plain n fits)
reply_row (Limits side joint) fits = (refl, limits_law.plain (side, joint) (tt, fits))
reply_row (TickPut n slot shape) fits = (refl, (refl, plain_append (decimal n ∷ decimal slot ∷ []) (shape_words shape) (placed_law.plain (n, slot) (fits.0, fits.1)) (shape_law.plain shape fits.2)))
reply_row (TickDel n slot) fits = (refl, (refl, placed_law.plain (n, slot) fits))
reply_row TickIdle fits = (refl, (refl, tt))
reply_row TickShape fits = (refl, (refl, tt))
reply_row TickSlot fits = (refl, (refl, tt))
reply_row (TickFull n) fits = (refl, (refl, number_law.plain n fits))
reply_row (TickEmpty n slot) fits = (refl, (refl, placed_law.plain (n, slot) fits))
reply_row (Ask n answer) fits = (refl, plain_append (decimal n ∷ []) (answer_words answer) (number_law.plain n fits.0) (answer_law.plain answer fits.1))

-- what was read of a reply
abbrev Found : List (List ℕ) → Reply → Type 0
Found ws r = (ws ≡ reply_words r) × (ShowsValidShape r → IsReplyInRange r)

tick_takes : (ws : List (List ℕ)) (r : Reply) → tick_of ws ≡ Ok r → Found (codes "tick" ∷ ws) r
unfolding tick_of
tick_takes ws r h =
    let P : Reply → Type 0 = Found (codes "tick" ∷ ws) in
    let behind = λ (vs : List (List ℕ)) (is : ws ≡ vs). ap (λ (xs : List (List ℕ)). codes "tick" ∷ xs) is in
    then_kind placed_law shape_law (λ x shape. TickPut x.0 x.1 shape) P (codes "put") ws r _ (λ x shape f g is. (behind _ is, λ valid. (f.0, f.1, valid)))
    (λ h1. last_kind placed_law (λ x. TickDel x.0 x.1) P (codes "del") ws r _ (λ x f is. (behind _ is, λ valid. f))
    (λ h2. bare_kind P (codes "idle") ws TickIdle r _ (λ is. (behind _ is, λ valid. tt))
    (λ h3. bare_kind P (codes "shape") ws TickShape r _ (λ is. (behind _ is, λ valid. tt))
    (λ h4. bare_kind P (codes "slot") ws TickSlot r _ (λ is. (behind _ is, λ valid. tt))
    (λ h5. last_kind number_law TickFull P (codes "full") ws r _ (λ x f is. (behind _ is, λ valid. f))
    (λ h6. last_kind placed_law (λ x. TickEmpty x.0 x.1) P (codes "empty") ws r _ (λ x f is. (behind _ is, λ valid. f))
    (λ h7. no_kind _ r h7) h6) h5) h4) h3) h2) h1) h

reply_takes : (ws : List (List ℕ)) (r : Reply) → reply_of ws ≡ Ok r → Found ws r
unfolding reply_of
reply_takes ws r h =
    let P : Reply → Type 0 = Found ws in
    last_kind number_law Put P (codes "put") ws r _ (λ x f is. (is, λ valid. f))
    (λ h1. last_kind number_law Del P (codes "del") ws r _ (λ x f is. (is, λ valid. f))
    (λ h2. bare_kind P (codes "slot") ws Slot r _ (λ is. (is, λ valid. tt))
    (λ h3. last_kind number_law Full P (codes "full") ws r _ (λ x f is. (is, λ valid. f))
    (λ h4. last_kind number_law Empty P (codes "empty") ws r _ (λ x f is. (is, λ valid. f))
    (λ h5. last_kind count_law (λ x. Count x.0 x.1) P (codes "count") ws r _ (λ x f is. (is, λ valid. f))
    (λ h6. bare_kind P (codes "absent") ws Absent r _ (λ is. (is, λ valid. tt))
    (λ h7. bare_kind P (codes "memory") ws Memory r _ (λ is. (is, λ valid. tt))
    (λ h8. last_kind number_law Sync P (codes "sync") ws r _ (λ x f is. (is, λ valid. f))
    (λ h9. last_kind limits_law (λ x. Limits x.0 x.1) P (codes "limits") ws r _ (λ x f is. (is, λ valid. f.1))
    (λ h10. kind_ok (P r) (codes "tick") ws _ _ r (λ is e. subst (λ (vs : List (List ℕ)). Found vs r) (sym is) (tick_takes (drop 1 ws) r e))
    (λ h11. then_kind number_law answer_law Ask P (codes "ask") ws r _ (λ n answer f g is. (is, λ valid. (f, g)))
    (λ h12. no_kind _ r h12) h11) h10) h9) h8) h7) h6) h5) h4) h3) h2) h1) h

-- ---- lines: replies, and the end line

end_law : Law (pair_at number_at (pair_at number_at number_at)) (both number_words (both number_words number_words)) (both_fit (λ n. n < number_limit) (both_fit (λ n. n < number_limit) (λ n. n < number_limit)))
end_law = pair_law number_law (pair_law number_law number_law)

-- no reply is an end line: what begins as one is no reply
end_is_none : (ws : List (List ℕ)) → reply_of (codes "end" ∷ ws) ≡ Err Bad
unfolding reply_of
end_is_none ws = refl

not_end : (r : Reply) → IsReplyInRange r → starts (codes "end") (reply_words r) ≡ false
not_end r fits = sym (false_from_not _ (λ h.
    ok_err r Bad (sym (reply_again r fits) ∙ ap reply_of (starts_is (codes "end") (reply_words r) h) ∙ end_is_none (drop 1 (reply_words r)))))

line_again : (line : ReportLine) → IsReportLine line → report_line_in (report_line_words line) ≡ Ok line
unfolding report_line_in
line_again (reply r) fits = rw (not_end r fits) (ap (λ (x : Result Reply WordFault). x >>= λ r. Ok (reply r)) (reply_again r fits))
line_again (end number nodes edges) fits = last_again end_law (λ x. end x.0 x.1.0 x.1.1) (number, (nodes, edges)) (fits.0, (fits.1, fits.2))

line_row : (line : ReportLine) → IsReportLine line → IsRow (report_line_words line)
line_row (reply r) fits = reply_row r fits
line_row (end number nodes edges) fits = (refl, end_law.plain (number, (nodes, edges)) (fits.0, (fits.1, fits.2)))

pub report_line_takes : (ws : List (List ℕ)) (line : ReportLine) → report_line_in ws ≡ Ok line → (ws ≡ report_line_words line) × (LineHasValidShape line → IsReportLine line)
unfolding report_line_in
report_line_takes ws line h =
    let P : ReportLine → Type 0 = λ x. (ws ≡ report_line_words x) × (LineHasValidShape x → IsReportLine x) in
    last_kind end_law (λ x. end x.0 x.1.0 x.1.1) P (codes "end") ws line _ (λ x f is. (is, λ valid. (f.0, f.1.0, f.1.1)))
    (λ other.
    let r = bind_ok (reply_of ws) (λ r. Ok (reply r)) line other in
    subst P (ok_is _ line r.2) (reply_takes ws r.0 r.1)) h

pub valid_line_in_range : (line : ReportLine) → IsReportLine line → LineHasValidShape line
valid_line_in_range (end number nodes edges) fits = tt
valid_line_in_range (reply r) fits = by_reply r fits where
  by_reply : (r : Reply) → IsReplyInRange r → ShowsValidShape r
  by_reply (TickPut n slot shape) h = h.2
  by_reply _ h = tt

-- the laws of report lines
pub report_line_laws : AreReadBack report_line_words IsReportLine report_line_in
report_line_laws = record { again = line_again; row = line_row }

pub report_lines_are_texts : AreTexts report_line_text IsReportLine
report_lines_are_texts = are_texts report_line_words IsReportLine report_line_in report_line_laws
