-- Reports: bytes are the text of one report, and of none where the end line is missing or something stands behind it.
use Rattle.std.proofs.Common.{◌≡◌, ◌≢◌, ℕ, ◌+◌, ◌<◌, ◌≤◌, inl, inr, List, [], ◌∷◌, ◌++◌, length, map, flat_map, sym, refl, ◌∙◌, ap, arith, append_assoc}
use Rattle.std.specs.List.{All}
use Rattle.std.proofs.lemmas.List.{append-nil, flat_map_more, length-map}
use Rattle.std.proofs.lemmas.List.Elements.{All-head, All-map, All-push}
use Rattle.drm_talk.specs.declared.Reply.{Reply}
use Rattle.drm_talk.specs.declared.Report.{Report}
use Rattle.drm_script.specs.declared.replies.ReportLine.{ReportLine}
use Rattle.drm_script.specs.declared.replies.ReportLine.TheVariants.{Reply as reply, End as end}
use Rattle.drm_script.specs.declared.words.WordFault.{WordFault}
use Rattle.drm_script.specs.declared.words.WordFault.TheVariants.{Bad, Memory}
use Rattle.drm_script.specs.Words.{words_in, first_line}
use Rattle.drm_script.specs.Front.{BeginsWithNone}
use Rattle.drm_script.specs.Reader.{Fails}
use Rattle.drm_script.specs.Report.{reply_text, end_text, IsReplyInRange, IsEndInRange, IsReport, IsFirstBadReportLine}
use Rattle.drm_script.specs.ReportReading.{report_line_words, report_line_text, IsReportLine, report_line_in}
use Rattle.drm_script.proofs.RowLemmas.{ahead, none_read, lines_fit}
use Rattle.drm_script.proofs.ReplyLemmas.{report_line_laws, report_lines_are_texts}

-- where no line is read, none stands there
pub no_line_read : (e : WordFault) (bytes : List ℕ) → Fails e (report_line_in (words_in (first_line bytes))) → e ≡ Bad → BeginsWithNone report_line_text IsReportLine bytes
no_line_read Bad bytes h is = none_read report_line_words IsReportLine report_line_in report_line_laws bytes h
no_line_read Memory bytes h is = absurd cc

-- ---- the lines of a report

abbrev as_lines : List Reply → List ReportLine
as_lines replies = map (λ r. reply r) replies

abbrev lines_of : Report → List ReportLine
lines_of report = as_lines report.replies ++ end report.number report.nodes report.edges ∷ []

as_lines_text : (replies : List Reply) → flat_map report_line_text (as_lines replies) ≡ flat_map reply_text replies
as_lines_text [] = refl
as_lines_text (r ∷ rs) = ap (λ (t : List ℕ). reply_text r ++ t) (as_lines_text rs)

with_end_text : (replies : List Reply) (number nodes edges : ℕ) → flat_map report_line_text (as_lines replies ++ end number nodes edges ∷ []) ≡ flat_map reply_text replies ++ end_text number nodes edges
with_end_text replies number nodes edges =
    sym (flat_map_more report_line_text [] (as_lines replies) (end number nodes edges)) ∙ ap (λ (t : List ℕ). t ++ end_text number nodes edges) (as_lines_text replies)

as_lines_fit : (replies : List Reply) → All IsReplyInRange replies → All IsReportLine (as_lines replies)
as_lines_fit replies h = All-map IsReportLine (λ r. reply r) replies h

lines_of_fit : (bytes : List ℕ) (report : Report) → IsReport bytes report → All IsReportLine (lines_of report)
lines_of_fit bytes report h = All-push IsReportLine (as_lines report.replies) (end report.number report.nodes report.edges) (as_lines_fit report.replies h.in_grammar) h.end

-- a list of replies has no end line, and a report has one, which is its last line
no_end : (rs qs : List Reply) (a b c : ℕ) → as_lines rs ++ end a b c ∷ [] ≡ as_lines qs ++ [] → ⊥
no_end [] [] a b c e = absurd cc
no_end [] (q ∷ qs) a b c e = absurd cc
no_end (r ∷ rs) [] a b c e = absurd cc
no_end (r ∷ rs) (q ∷ qs) a b c e = no_end rs qs a b c cc

two_ends : (rs qs : List Reply) (a b c d f g : ℕ) (z : ReportLine) (zs : List ReportLine) → as_lines rs ++ end a b c ∷ [] ≡ (as_lines qs ++ end d f g ∷ []) ++ z ∷ zs → ⊥
two_ends [] [] a b c d f g z zs e = absurd cc
two_ends [] (q ∷ qs) a b c d f g z zs e = absurd cc
two_ends (r ∷ rs) [] a b c d f g z zs e = absurd cc
two_ends (r ∷ rs) (q ∷ qs) a b c d f g z zs e = two_ends rs qs a b c d f g z zs cc

same_lines : (rs qs : List Reply) (a b c d f g : ℕ) → as_lines rs ++ end a b c ∷ [] ≡ as_lines qs ++ end d f g ∷ [] → (rs ≡ qs) × (a ≡ d) × (b ≡ f) × (c ≡ g)
same_lines [] [] a b c d f g e = (refl, cc, cc, cc)
same_lines [] (q ∷ qs) a b c d f g e = absurd cc
same_lines (r ∷ rs) [] a b c d f g e = absurd cc
same_lines (r ∷ rs) (q ∷ qs) a b c d f g e =
    let p = same_lines rs qs a b c d f g cc in let rest = p.0 in
    (cc, p.1, p.2, p.3)

-- ---- a report is told by its bytes

abbrev pub made : List Reply → ℕ → ℕ → ℕ → Report
made replies a b c = record { replies = replies; number = a; nodes = b; edges = c }

made_same : (rs qs : List Reply) (a b c d f g : ℕ) → rs ≡ qs → a ≡ d → b ≡ f → c ≡ g → made rs a b c ≡ made qs d f g
made_same rs qs a b c d f g e0 e1 e2 e3 = cc

no_more : (lines : List ReportLine) → [] ≡ flat_map report_line_text lines → lines ≡ []
no_more [] e = refl
no_more (x ∷ xs) e = absurd (omega (arith, ap length e, report_lines_are_texts.some x (flat_map report_line_text xs)))

pub report_one_way : (bytes : List ℕ) (report other : Report) → IsReport bytes report → IsReport bytes other → report ≡ other
report_one_way bytes report other h k =
    let p = ahead report_line_text IsReportLine report_lines_are_texts (lines_of report) (lines_of other) [] (lines_of_fit bytes report h) (lines_of_fit bytes other k)
    (append-nil (flat_map report_line_text (lines_of report)) ∙ with_end_text report.replies report.number report.nodes report.edges ∙ sym h.text ∙ k.text ∙ sym (with_end_text other.replies other.number other.nodes other.edges)) in
    let lines : lines_of other ≡ lines_of report = p.1 ∙ ap (λ (zs : List ReportLine). lines_of report ++ zs) (no_more p.0 p.2) ∙ append-nil (lines_of report) in
    let same = same_lines report.replies other.replies report.number report.nodes report.edges other.number other.nodes other.edges (sym lines) in
    let e0 = same.0 in let e1 = same.1 in let e2 = same.2 in let e3 = same.3 in
    made_same report.replies other.replies report.number report.nodes report.edges other.number other.nodes other.edges e0 e1 e2 e3

-- ---- where reading stops

none_behind : (bytes : List ℕ) (replies : List Reply) (rest : List ℕ) → bytes ≡ flat_map reply_text replies ++ rest → All IsReplyInRange replies → BeginsWithNone report_line_text IsReportLine rest → (report : Report) → IsReport bytes report → ⊥
none_behind bytes replies rest text in_grammar bad report h =
    let p = ahead report_line_text IsReportLine report_lines_are_texts (as_lines replies) (lines_of report) rest (as_lines_fit replies in_grammar) (lines_of_fit bytes report h)
    (ap (λ (t : List ℕ). t ++ rest) (as_lines_text replies) ∙ sym text ∙ h.text ∙ sym (with_end_text report.replies report.number report.nodes report.edges)) in
    by_rest p.0 p.1 p.2 p.3 where
      by_rest : (zs : List ReportLine) → lines_of report ≡ as_lines replies ++ zs → rest ≡ flat_map report_line_text zs → All IsReportLine zs → ⊥
      by_rest [] lines is fits = no_end report.replies replies report.number report.nodes report.edges lines
      by_rest (z ∷ zs) lines is fits = bad z (flat_map report_line_text zs) (All-head IsReportLine z zs fits) is

-- what stands behind some replies, and is neither a reply nor an end line
pub first_bad_line : (bytes : List ℕ) (replies : List Reply) (rest : List ℕ) → bytes ≡ flat_map reply_text replies ++ rest → All IsReplyInRange replies → BeginsWithNone report_line_text IsReportLine rest → IsFirstBadReportLine (length replies + 1) bytes
first_bad_line bytes replies rest text in_grammar bad = record {
  replies = replies;
  rest = rest;
  text = text;
  in_grammar = in_grammar;
  bad = inl (
    refl,
    record {
      reply = λ r more fits is. bad (reply r) more fits is;
      end = λ number nodes edges more fits is. bad (end number nodes edges) more fits is;
    },
  );
  no_report = none_behind bytes replies rest text in_grammar bad;
}

more_behind : (bytes : List ℕ) (replies : List Reply) (rest more : List ℕ) (a b c : ℕ) → bytes ≡ flat_map reply_text replies ++ rest → All IsReplyInRange replies → rest ≡ end_text a b c ++ more → IsEndInRange a b c → more ≢ [] → (report : Report) → IsReport bytes report → ⊥
more_behind bytes replies rest more a b c text in_grammar end_is fits some report h =
    let lines = as_lines replies ++ end a b c ∷ [] in
    let whole : flat_map report_line_text lines ++ more ≡ bytes =
    ap (λ (t : List ℕ). t ++ more) (with_end_text replies a b c) ∙ append_assoc (flat_map reply_text replies) (end_text a b c) more ∙ ap (λ (t : List ℕ). flat_map reply_text replies ++ t) (sym end_is) ∙ sym text in
    let p = ahead report_line_text IsReportLine report_lines_are_texts lines (lines_of report) more (All-push IsReportLine (as_lines replies) (end a b c) (as_lines_fit replies in_grammar) fits) (lines_of_fit bytes report h)
    (whole ∙ h.text ∙ sym (with_end_text report.replies report.number report.nodes report.edges)) in
    by_rest p.0 p.1 p.2 where
      by_rest : (zs : List ReportLine) → lines_of report ≡ (as_lines replies ++ end a b c ∷ []) ++ zs → more ≡ flat_map report_line_text zs → ⊥
      by_rest [] lines is = some is
      by_rest (z ∷ zs) lines is = two_ends report.replies replies report.number report.nodes report.edges a b c z zs lines

-- what stands behind the end line
pub bad_behind_end : (bytes : List ℕ) (replies : List Reply) (rest more : List ℕ) (a b c : ℕ) → bytes ≡ flat_map reply_text replies ++ rest → All IsReplyInRange replies → rest ≡ end_text a b c ++ more → IsEndInRange a b c → more ≢ [] → IsFirstBadReportLine (length replies + 2) bytes
bad_behind_end bytes replies rest more a b c text in_grammar end_is fits some = record {
  replies = replies;
  rest = rest;
  text = text;
  in_grammar = in_grammar;
  bad = inr (refl, record { number = a; nodes = b; edges = c; more = more; text = end_is; in_range = fits; some = some });
  no_report = more_behind bytes replies rest more a b c text in_grammar end_is fits some;
}

-- there are no more replies than bytes
pub replies_fit : (bytes : List ℕ) (replies : List Reply) (rest : List ℕ) → bytes ≡ flat_map reply_text replies ++ rest → length replies + length rest ≤ length bytes
replies_fit bytes replies rest e =
    omega (arith, lines_fit report_line_text IsReportLine report_lines_are_texts bytes (as_lines replies) rest (e ∙ ap (λ (t : List ℕ). t ++ rest) (sym (as_lines_text replies))), length-map replies (λ (r : Reply). reply r))

-- the whole report is read
pub is_report : (bytes : List ℕ) (replies : List Reply) (rest more : List ℕ) (a b c : ℕ) → bytes ≡ flat_map reply_text replies ++ rest → All IsReplyInRange replies → rest ≡ end_text a b c ++ more → IsEndInRange a b c → more ≡ [] → IsReport bytes (made replies a b c)
is_report bytes replies rest more a b c text in_grammar end_is fits none = record {
  text = text ∙ ap (λ (t : List ℕ). flat_map reply_text replies ++ t) (end_is ∙ ap (λ (t : List ℕ). end_text a b c ++ t) none ∙ append-nil (end_text a b c));
  in_grammar = in_grammar;
  end = fits;
}

pub longer : (rest more : List ℕ) (line : ReportLine) → rest ≡ report_line_text line ++ more → length more < length rest
longer rest more line e = omega (arith, ap length e, report_lines_are_texts.some line more)

pub nothing_left : (rest : List ℕ) → length rest ≡ 0 → rest ≡ []
nothing_left [] e = refl
nothing_left (x ∷ xs) e = absurd (omega (arith, e))
