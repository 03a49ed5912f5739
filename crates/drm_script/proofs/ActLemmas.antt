-- Log lines: what was spelled is read, and what is read is spelled so.
use Rattle.std.proofs.Common.{◌≡◌, ℕ, ◌<◌, List, [], ◌∷◌, ◌++◌, flat_map, Result, Ok, codes, drop, decimal, refl, ap, subst, arith, lit≤}
use Rattle.std.specs.List.{All}
use Rattle.std.specs.Int.{w32}
use Rattle.std.specs.Int.RustNames.{FitsSigned}
use Rattle.std.proofs.lemmas.Int.{ints}
use Rattle.std.proofs.lemmas.List.Elements.{All-weaker}
use Rattle.drm_shape.specs.declared.Shape.{Shape}
use Rattle.drm_shape.specs.declared.Shape.TheVariants.{Rect, Disc, Poly}
use Rattle.drm_shape.specs.Validity.{IsValid, IsCoordinate}
use Rattle.drm_talk.specs.declared.Element.{Element}
use Rattle.drm_talk.specs.declared.Element.TheVariants.{Node, Edge}
use Rattle.drm_talk.specs.declared.Act.{Act}
use Rattle.drm_talk.specs.declared.Act.TheVariants.{Put, Del, Count, Ask, Sync, Tick}
use Rattle.drm_talk.specs.declared.Line.{Line}
use Rattle.drm_script.specs.declared.words.WordFault.{WordFault}
use Rattle.drm_script.specs.Limits.{number_limit, caller_limit}
use Rattle.drm_script.specs.Log.{number_words, shape_words, element_words, signed_words, act_words, line_words, line_text, IsElementInRange, AreJoints, IsActInRange, HasValidShape, IsLogLine}
use Rattle.drm_script.specs.Reader.{◌>>=◌, unsigned_at, signed_at, number_at, pair_at}
use Rattle.drm_script.specs.Reading.{ring_of, shape_of, element_at, joints_at, act_of, line_in}
use Rattle.drm_script.proofs.ReaderLemmas.{ok_is, bind_ok, kind_ok, no_kind, row_is}
use Rattle.drm_script.proofs.LawLemmas.{Law, LastLaw, both, both_fit, unsigned_law, signed_law, pair_law, many_law, many_plain, at_again, at_kind, last_again, last_kind, bare_kind, then_again, then_takes, then_kind, slot_law, number_law}
use Rattle.drm_script.proofs.RingLemmas.{ring_again, ring_takes}
use Rattle.drm_script.proofs.RowLemmas.{ArePlain, IsRow, AreReadBack, AreTexts, are_texts}
use lib.IntN.{ℤ, pos, negsuc}

-- ---- the fields

caller_law : Law (unsigned_at caller_limit) (λ n. decimal n ∷ []) (λ n. n < caller_limit)
caller_law = unsigned_law caller_limit (lit≤ tt)

joints_law : (joints : ℕ) → Law (joints_at joints) (flat_map signed_words) (AreJoints joints)
unfolding joints_at
joints_law joints = many_law joints signed_law

box_law : Law (pair_at signed_at (pair_at signed_at (pair_at signed_at signed_at))) (both signed_words (both signed_words (both signed_words signed_words))) (both_fit (FitsSigned w32) (both_fit (FitsSigned w32) (both_fit (FitsSigned w32) (FitsSigned w32))))
box_law = pair_law signed_law (pair_law signed_law (pair_law signed_law signed_law))

disc_law : Law (pair_at signed_at (pair_at signed_at number_at)) (both signed_words (both signed_words number_words)) (both_fit (FitsSigned w32) (both_fit (FitsSigned w32) (λ n. n < number_limit)))
disc_law = pair_law signed_law (pair_law signed_law number_law)

-- the coordinates of a valid shape fit 32 bits
pub coordinate_fits : (z : ℤ) → IsCoordinate z → FitsSigned w32 z
coordinate_fits (pos n) h = record { sfits = omega (arith, ints, h.below) }
coordinate_fits (negsuc n) h = record { sfits = omega (arith, ints, h.above) }

coordinates_fit : (zs : List ℤ) → All IsCoordinate zs → All (FitsSigned w32) zs
coordinates_fit zs h = All-weaker IsCoordinate (FitsSigned w32) coordinate_fits zs h

-- ---- shapes: of each kind an equation, its words, and a case

shape_again : (shape : Shape) → IsValid shape → shape_of (shape_words shape) ≡ Ok shape
unfolding shape_of
shape_again (Rect x0 y0 x1 y1) valid =
    let f = valid.in_range in
    last_again box_law (λ x. Rect x.0 x.1.0 x.1.1.0 x.1.1.1) (x0, (y0, (x1, y1))) (coordinate_fits x0 f.0, (coordinate_fits y0 f.1, (coordinate_fits x1 f.2, coordinate_fits y1 f.3)))
shape_again (Disc x y r) valid =
    let f = valid.in_range in
    last_again disc_law (λ x. Disc x.0 x.1.0 x.1.1) (x, (y, r)) (coordinate_fits x f.0, (coordinate_fits y f.1, omega (arith, valid.radius)))
shape_again (Poly ring) valid = ap (λ (r : Result (List ℤ) WordFault). r >>= λ ring. Ok (Poly ring)) (ring_again ring valid.corners (coordinates_fit ring valid.in_range))

shape_plain : (shape : Shape) → IsValid shape → ArePlain (shape_words shape)
shape_plain (Rect x0 y0 x1 y1) valid =
    let f = valid.in_range in
    (refl, box_law.plain (x0, (y0, (x1, y1))) (coordinate_fits x0 f.0, (coordinate_fits y0 f.1, (coordinate_fits x1 f.2, coordinate_fits y1 f.3))))
shape_plain (Disc x y r) valid =
    let f = valid.in_range in
    (refl, disc_law.plain (x, (y, r)) (coordinate_fits x f.0, (coordinate_fits y f.1, omega (arith, valid.radius))))
shape_plain (Poly ring) valid = (refl, many_plain signed_law ring (coordinates_fit ring valid.in_range))

shape_takes : (ws : List (List ℕ)) (shape : Shape) → shape_of ws ≡ Ok shape → (ws ≡ shape_words shape) × Unit {0}
unfolding shape_of
shape_takes ws shape h =
    let P : Shape → Type 0 = λ x. (ws ≡ shape_words x) × Unit {0} in
    last_kind box_law (λ x. Rect x.0 x.1.0 x.1.1.0 x.1.1.1) P (codes "box") ws shape _ (λ x f is. (is, tt))
    (λ h1. last_kind disc_law (λ x. Disc x.0 x.1.0 x.1.1) P (codes "disc") ws shape _ (λ x f is. (is, tt))
    (λ h2. kind_ok (P shape) (codes "poly") ws _ _ shape (λ is e.
    let ring = bind_ok (ring_of (drop 1 ws)) (λ ring. Ok (Poly ring)) shape e in
    subst P (ok_is _ shape ring.2) (row_is _ ws _ is (ring_takes (drop 1 ws) ring.0 ring.1), tt))
    (λ h3. no_kind _ shape h3) h2) h1) h

pub shape_law : LastLaw shape_of shape_words IsValid (λ shape. Unit {0})
shape_law = record { again = shape_again; takes = shape_takes; plain = shape_plain }

-- ---- elements

element_again : (element : Element) (more : List (List ℕ)) → IsElementInRange element → element_at (element_words element ++ more) ≡ Ok (element, more)
unfolding element_at
element_again (Node n) more fits = at_again number_law Node n more fits
element_again (Edge n) more fits = at_again number_law Edge n more fits

element_plain : (element : Element) → IsElementInRange element → ArePlain (element_words element)
element_plain (Node n) fits = (refl, number_law.plain n fits)
element_plain (Edge n) fits = (refl, number_law.plain n fits)

element_takes : (ws : List (List ℕ)) (element : Element) (more : List (List ℕ)) → element_at ws ≡ Ok (element, more) → (ws ≡ element_words element ++ more) × IsElementInRange element
unfolding element_at
element_takes ws element more h =
    let P : Element → List (List ℕ) → Type 0 = λ x more. (ws ≡ element_words x ++ more) × IsElementInRange x in
    at_kind number_law Node P (codes "node") ws element more _ (λ x more f is. (is, f))
    (λ h1. at_kind number_law Edge P (codes "edge") ws element more _ (λ x more f is. (is, f))
    (λ h2. no_kind _ (element, more) h2) h1) h

element_law : Law element_at element_words IsElementInRange
element_law = record { again = element_again; takes = element_takes; plain = element_plain }

-- ---- requests: of each kind an equation, its words, and a case

ask_law : (joints : ℕ) → Law (pair_at (joints_at joints) (joints_at joints)) (both (flat_map signed_words) (flat_map signed_words)) (both_fit (AreJoints joints) (AreJoints joints))
ask_law joints = pair_law (joints_law joints) (joints_law joints)

act_again : (joints : ℕ) (act : Act) → IsActInRange joints act → act_of joints (act_words act) ≡ Ok act
unfolding act_of
act_again joints (Put slot shape) fits = then_again slot_law shape_law Put slot shape fits.0 fits.1
act_again joints (Del slot) fits = last_again slot_law Del slot fits
act_again joints (Count element) fits = last_again element_law Count element fits
act_again joints (Ask start goal) fits = last_again (ask_law joints) (λ x. Ask x.0 x.1) (start, goal) fits
act_again joints Sync fits = refl
act_again joints Tick fits = refl

act_plain : (joints : ℕ) (act : Act) → IsActInRange joints act → ArePlain (act_words act)
act_plain joints (Put slot shape) fits = (refl, ((slot_law.plain slot fits.0).0, shape_plain shape fits.1))
act_plain joints (Del slot) fits = (refl, slot_law.plain slot fits)
act_plain joints (Count element) fits = (refl, element_plain element fits)
act_plain joints (Ask start goal) fits = (refl, (ask_law joints).plain (start, goal) fits)
act_plain joints Sync fits = (refl, tt)
act_plain joints Tick fits = (refl, tt)

act_takes : (joints : ℕ) (ws : List (List ℕ)) (act : Act) → act_of joints ws ≡ Ok act → (ws ≡ act_words act) × (HasValidShape act → IsActInRange joints act)
unfolding act_of
act_takes joints ws act h =
    let P : Act → Type 0 = λ x. (ws ≡ act_words x) × (HasValidShape x → IsActInRange joints x) in
    then_kind slot_law shape_law Put P (codes "put") ws act _ (λ slot shape f g is. (is, λ valid. (f, valid)))
    (λ h1. last_kind slot_law Del P (codes "del") ws act _ (λ x f is. (is, λ valid. f))
    (λ h2. last_kind element_law Count P (codes "count") ws act _ (λ x f is. (is, λ valid. f))
    (λ h3. last_kind (ask_law joints) (λ x. Ask x.0 x.1) P (codes "ask") ws act _ (λ x f is. (is, λ valid. f))
    (λ h4. bare_kind P (codes "sync") ws Sync act _ (λ is. (is, λ valid. tt))
    (λ h5. bare_kind P (codes "tick") ws Tick act _ (λ is. (is, λ valid. tt))
    (λ h6. no_kind _ act h6) h5) h4) h3) h2) h1) h

act_law : (joints : ℕ) → LastLaw (act_of joints) act_words (IsActInRange joints) (λ act. HasValidShape act → IsActInRange joints act)
act_law joints = record { again = act_again joints; takes = act_takes joints; plain = act_plain joints }

-- ---- lines

line_again : (joints : ℕ) (line : Line) → IsLogLine joints line → line_in joints (line_words line) ≡ Ok line
unfolding line_in
line_again joints line fits = then_again caller_law (act_law joints) (λ caller act. record { caller = caller; act = act }) line.caller line.act fits.caller fits.act

line_row : (joints : ℕ) (line : Line) → IsLogLine joints line → IsRow (line_words line)
line_row joints line fits = ((caller_law.plain line.caller fits.caller).0, act_plain joints line.act fits.act)

pub line_takes : (joints : ℕ) (ws : List (List ℕ)) (line : Line) → line_in joints ws ≡ Ok line → (ws ≡ line_words line) × (HasValidShape line.act → IsLogLine joints line)
unfolding line_in
line_takes joints ws line h =
    then_takes caller_law (act_law joints) (λ caller act. record { caller = caller; act = act })
    (λ (x : Line). (ws ≡ line_words x) × (HasValidShape x.act → IsLogLine joints x)) ws line
    (λ caller act f g is. (is, λ valid. record { caller = f; act = g valid })) h

pub valid_in_range : (joints : ℕ) (act : Act) → IsActInRange joints act → HasValidShape act
valid_in_range joints (Put slot shape) fits = fits.1
valid_in_range joints (Del slot) fits = tt
valid_in_range joints (Count element) fits = tt
valid_in_range joints (Ask start goal) fits = tt
valid_in_range joints Sync fits = tt
valid_in_range joints Tick fits = tt

-- the laws of log lines
pub line_laws : (joints : ℕ) → AreReadBack line_words (IsLogLine joints) (line_in joints)
line_laws joints = record { again = line_again joints; row = line_row joints }

pub lines_are_texts : (joints : ℕ) → AreTexts line_text (IsLogLine joints)
lines_are_texts joints = are_texts line_words (IsLogLine joints) (line_in joints) (line_laws joints)
