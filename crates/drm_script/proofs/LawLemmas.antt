-- Values of a line: what was spelled is read, what is read is spelled so, and its words are those of a line.
use Rattle.std.proofs.Common.{◌≡◌, ℕ, ◌^◌, ◌<◌, ◌≤◌, cond, zero, suc, List, [], ◌∷◌, ◌++◌, length, flat_map, Result, Ok, decimal, drop, refl, sym, ap, ap₂, subst, ◌∙◌, arith, append_assoc, lit≤}
use Rattle.std.specs.List.{All}
use Rattle.std.specs.Fmt.{signed_decimal}
use Rattle.std.specs.Int.{w32}
use Rattle.std.specs.Int.RustNames.{FitsSigned}
use Rattle.std.proofs.lemmas.List.{append-nil}
use Rattle.std.proofs.lemmas.List.Elements.{All-head, All-tail, All-nil, All-cons}
use Rattle.drm_script.specs.declared.words.WordFault.{WordFault}
use Rattle.drm_script.specs.Limits.{slot_limit, number_limit, wide_limit}
use Rattle.drm_script.specs.Log.{number_words}
use Rattle.drm_script.specs.Reader.{◌>>=◌, starts, ended, unsigned_at, signed_at, Reads, slot_at, wide_at, number_at, pair_at, made_at, many_at, counted_at, last_of, then_of}
use Rattle.drm_script.proofs.FieldLemmas.{unsigned_again, unsigned_takes, signed_again, signed_takes}
use Rattle.drm_script.proofs.ReaderLemmas.{ok_is, bind_ok, ended_ok, kind_ok}
use Rattle.drm_script.proofs.TakeLemmas.{plain_decimal, plain_signed}
use Rattle.drm_script.proofs.RowLemmas.{ArePlain}

-- the laws of a value that stands among others, and those of a value that ends its line; what is read of such a value may
-- break a rule that is tested later, so that less is known of it
pub record Law {X : Type 0} (read : Reads X) (text : X → List (List ℕ)) (Fits : X → Type 0) : Type 0 where
  pub again : (x : X) (more : List (List ℕ)) → Fits x → read (text x ++ more) ≡ Ok (x, more)
  pub takes : (ws : List (List ℕ)) (x : X) (more : List (List ℕ)) → read ws ≡ Ok (x, more) → (ws ≡ text x ++ more) × Fits x
  pub plain : (x : X) → Fits x → ArePlain (text x)

pub record LastLaw {Y : Type 0} (read : List (List ℕ) → Result Y WordFault) (text : Y → List (List ℕ)) (Fits Found : Y → Type 0) : Type 0 where
  pub again : (y : Y) → Fits y → read (text y) ≡ Ok y
  pub takes : (ws : List (List ℕ)) (y : Y) → read ws ≡ Ok y → (ws ≡ text y) × Found y
  pub plain : (y : Y) → Fits y → ArePlain (text y)

pub plain_append : (vs ws : List (List ℕ)) → ArePlain vs → ArePlain ws → ArePlain (vs ++ ws)
plain_append [] ws hv hw = hw
plain_append (v ∷ vs) ws hv hw = (hv.0, plain_append vs ws hv.1 hw)

-- ---- numbers

pub unsigned_law : (limit : ℕ) → limit ≤ 2 ^ 64 → Law (unsigned_at limit) (λ n. decimal n ∷ []) (λ n. n < limit)
unsigned_law limit small = record {
  again = λ n more fits. unsigned_again limit n more small fits;
  takes = λ ws n more h. unsigned_takes limit ws n more h;
  plain = λ n fits. (plain_decimal n (omega (arith, fits, small)), tt);
}

pub signed_law : Law signed_at (λ z. signed_decimal z ∷ []) (FitsSigned w32)
signed_law = record {
  again = λ z more fits. signed_again z more fits;
  takes = λ ws z more h. signed_takes ws z more h;
  plain = λ z fits. (plain_signed z fits, tt);
}

pub slot_law : Law slot_at number_words (λ n. n < slot_limit)
slot_law = unsigned_law slot_limit (lit≤ tt)

pub wide_law : Law wide_at number_words (λ n. n < wide_limit)
wide_law = unsigned_law wide_limit (lit≤ tt)

pub number_law : Law number_at number_words (λ n. n < number_limit)
number_law = unsigned_law number_limit (lit≤ tt)

-- ---- two values, and what is made of one

abbrev pub both : {X Y : Type 0} → (X → List (List ℕ)) → (Y → List (List ℕ)) → X × Y → List (List ℕ)
both t u p = t p.0 ++ u p.1

abbrev pub both_fit : {X Y : Type 0} → (X → Type 0) → (Y → Type 0) → X × Y → Type 0
both_fit F G p = F p.0 × G p.1

pub pair_law : {X Y : Type 0} {r : Reads X} {q : Reads Y} {t : X → List (List ℕ)} {u : Y → List (List ℕ)} {F : X → Type 0} {G : Y → Type 0} → Law r t F → Law q u G → Law (pair_at r q) (both t u) (both_fit F G)
pair_law {X = X} {Y = Y} {r = r} {q = q} {t = t} {u = u} {F = F} {G = G} one two = record {
  again = λ p more fits.
      ap (pair_at r q) (append_assoc (t p.0) (u p.1) more)
      ∙ ap (λ (x : Result (X × List (List ℕ)) WordFault). x >>= λ x. q x.1 >>= λ y. Ok ((x.0, y.0), y.1)) (one.again p.0 (u p.1 ++ more) fits.0)
      ∙ ap (λ (y : Result (Y × List (List ℕ)) WordFault). y >>= λ y. Ok ((p.0, y.0), y.1)) (two.again p.1 more fits.1);
  takes = λ ws p more h.
      let x = bind_ok (r ws) (λ x. q x.1 >>= λ y. Ok ((x.0, y.0), y.1)) (p, more) h in
      let y = bind_ok (q x.0.1) (λ y. Ok ((x.0.0, y.0), y.1)) (p, more) x.2 in
      let e = ok_is ((x.0.0, y.0.0), y.0.1) (p, more) y.2 in
      let a = one.takes ws x.0.0 x.0.1 x.1 in
      let b = two.takes x.0.1 y.0.0 y.0.1 y.1 in
      subst (λ (z : (X × Y) × List (List ℕ)). (ws ≡ (t z.0.0 ++ u z.0.1) ++ z.1) × (F z.0.0 × G z.0.1)) e
      (a.0 ∙ ap (λ (v : List (List ℕ)). t x.0.0 ++ v) b.0 ∙ sym (append_assoc (t x.0.0) (u y.0.0) y.0.1), (a.1, b.1));
  plain = λ p fits. plain_append (t p.0) (u p.1) (one.plain p.0 fits.0) (two.plain p.1 fits.1);
}

pub made_law : {X Y : Type 0} {r : Reads X} {t : X → List (List ℕ)} {F : X → Type 0} → Law r t F → (make : X → Y) (parts : Y → X) → ((x : X) → parts (make x) ≡ x) → ((y : Y) → make (parts y) ≡ y) → Law (made_at r make) (λ y. t (parts y)) (λ y. F (parts y))
made_law {X = X} {Y = Y} {r = r} {t = t} {F = F} law make parts one two = record {
  again = λ y more fits.
      ap (λ (x : Result (X × List (List ℕ)) WordFault). x >>= λ x. Ok (make x.0, x.1)) (law.again (parts y) more fits)
      ∙ ap (λ (z : Y). Ok (z, more)) (two y);
  takes = λ ws y more h.
      let x = bind_ok (r ws) (λ x. Ok (make x.0, x.1)) (y, more) h in
      let e = ok_is (make x.0.0, x.0.1) (y, more) x.2 in
      let a = law.takes ws x.0.0 x.0.1 x.1 in
      subst (λ (z : Y × List (List ℕ)). (ws ≡ t (parts z.0) ++ z.1) × F (parts z.0)) e
      (subst (λ (p : X). (ws ≡ t p ++ x.0.1) × F p) (sym (one x.0.0)) a);
  plain = λ y fits. law.plain (parts y) fits;
}

-- ---- lists

many_again : {X : Type 0} {r : Reads X} {t : X → List (List ℕ)} {F : X → Type 0} → Law r t F → (front xs : List X) (more : List (List ℕ)) → All F xs → many_at r (length xs) front (flat_map t xs ++ more) ≡ Ok (front ++ xs, more)
many_again {X = X} law front [] more fits = ap (λ (zs : List X). Ok (zs, more)) (sym (append-nil front))
many_again {X = X} {r = r} {t = t} {F = F} law front (x ∷ xs) more fits =
    ap (many_at r (suc (length xs)) front) (append_assoc (t x) (flat_map t xs) more)
    ∙ ap (λ (a : Result (X × List (List ℕ)) WordFault). a >>= λ a. many_at r (length xs) (front ++ a.0 ∷ []) a.1) (law.again x (flat_map t xs ++ more) (All-head F x xs fits))
    ∙ many_again law (front ++ x ∷ []) xs more (All-tail F x xs fits)
    ∙ ap (λ (zs : List X). Ok (zs, more)) (append_assoc front (x ∷ []) xs)

-- what so many values are
record Many {X : Type 0} (t : X → List (List ℕ)) (F : X → Type 0) (n : ℕ) (front : List X) (ws : List (List ℕ)) (all : List X) (more : List (List ℕ)) : Type 0 where
  pub xs : List X
  pub all_is : front ++ xs ≡ all
  pub count : length xs ≡ n
  pub text : ws ≡ flat_map t xs ++ more
  pub fits : All F xs

many_takes : {X : Type 0} {r : Reads X} {t : X → List (List ℕ)} {F : X → Type 0} → Law r t F → (n : ℕ) (front : List X) (ws : List (List ℕ)) (all : List X) (more : List (List ℕ)) → many_at r n front ws ≡ Ok (all, more) → Many t F n front ws all more
many_takes {X = X} {t = t} {F = F} law zero front ws all more h =
    let e = ok_is (front, ws) (all, more) h in
    record {
      xs = [];
      all_is = append-nil front ∙ ap (λ (p : List X × List (List ℕ)). p.0) e;
      count = refl;
      text = ap (λ (p : List X × List (List ℕ)). p.1) e;
      fits = All-nil F;
    }
many_takes {X = X} {r = r} {t = t} {F = F} law (suc n) front ws all more h =
    let x = bind_ok (r ws) (λ x. many_at r n (front ++ x.0 ∷ []) x.1) (all, more) h in
    let a = law.takes ws x.0.0 x.0.1 x.1 in
    let m = many_takes law n (front ++ x.0.0 ∷ []) x.0.1 all more x.2 in
    record {
      xs = x.0.0 ∷ m.xs;
      all_is = sym (append_assoc front (x.0.0 ∷ []) m.xs) ∙ m.all_is;
      count = ap suc m.count;
      text = a.0 ∙ ap (λ (v : List (List ℕ)). t x.0.0 ++ v) m.text ∙ sym (append_assoc (t x.0.0) (flat_map t m.xs) more);
      fits = All-cons F x.0.0 m.xs a.1 m.fits;
    }

pub many_plain : {X : Type 0} {r : Reads X} {t : X → List (List ℕ)} {F : X → Type 0} → Law r t F → (xs : List X) → All F xs → ArePlain (flat_map t xs)
many_plain law [] fits = tt
many_plain {t = t} {F = F} law (x ∷ xs) fits = plain_append (t x) (flat_map t xs) (law.plain x (All-head F x xs fits)) (many_plain law xs (All-tail F x xs fits))

pub many_law : {X : Type 0} {r : Reads X} {t : X → List (List ℕ)} {F : X → Type 0} (n : ℕ) → Law r t F → Law (many_at r n []) (flat_map t) (λ xs. (length xs ≡ n) × All F xs)
many_law {X = X} {r = r} {t = t} {F = F} n law = record {
  again = λ xs more fits. ap (λ (m : ℕ). many_at r m [] (flat_map t xs ++ more)) (sym fits.0) ∙ many_again law [] xs more fits.1;
  takes = λ ws xs more h.
      let m = many_takes law n [] ws xs more h in
      subst (λ (ys : List X). (ws ≡ flat_map t ys ++ more) × ((length ys ≡ n) × All F ys)) m.all_is (m.text, (m.count, m.fits));
  plain = λ xs fits. many_plain law xs fits.1;
}

pub counted_law : {X : Type 0} {r : Reads X} {t : X → List (List ℕ)} {F : X → Type 0} (limit : ℕ) → limit ≤ 2 ^ 64 → Law r t F → Law (counted_at limit r) (λ xs. decimal (length xs) ∷ flat_map t xs) (λ xs. (length xs < limit) × All F xs)
counted_law {X = X} {r = r} {t = t} {F = F} limit small law = record {
  again = λ xs more fits.
      ap (λ (n : Result (ℕ × List (List ℕ)) WordFault). n >>= λ n. many_at r n.0 [] n.1) (unsigned_again limit (length xs) (flat_map t xs ++ more) small fits.0)
      ∙ many_again law [] xs more fits.1;
  takes = λ ws xs more h.
      let n = bind_ok (unsigned_at limit ws) (λ n. many_at r n.0 [] n.1) (xs, more) h in
      let a = unsigned_takes limit ws n.0.0 n.0.1 n.1 in
      let m = many_takes law n.0.0 [] n.0.1 xs more n.2 in
      let count : n.0.0 ≡ length xs = sym m.count ∙ ap length m.all_is in
      subst (λ (ys : List X). (ws ≡ decimal (length ys) ∷ (flat_map t ys ++ more)) × ((length ys < limit) × All F ys)) m.all_is
      (a.0 ∙ ap₂ (λ (k : ℕ) (v : List (List ℕ)). decimal k ∷ v) (sym m.count) m.text, (omega (arith, a.1, m.count), m.fits));
  plain = λ xs fits. (plain_decimal (length xs) (omega (arith, fits.0, small)), many_plain law xs fits.1);
}

-- ---- kinds: the word of a kind, and its value, one of several kinds

-- among others
pub at_again : {X Y : Type 0} {r : Reads X} {t : X → List (List ℕ)} {F : X → Type 0} → Law r t F → (make : X → Y) (x : X) (more : List (List ℕ)) → F x → made_at r make (t x ++ more) ≡ Ok (make x, more)
at_again {X = X} law make x more fits = ap (λ (x : Result (X × List (List ℕ)) WordFault). x >>= λ x. Ok (make x.0, x.1)) (law.again x more fits)

pub made_takes : {X Y : Type 0} {r : Reads X} {t : X → List (List ℕ)} {F : X → Type 0} → Law r t F → (make : X → Y) (P : Y → List (List ℕ) → Type 0) (ws : List (List ℕ)) (y : Y) (more : List (List ℕ)) → ((x : X) (more : List (List ℕ)) → F x → ws ≡ t x ++ more → P (make x) more) → made_at r make ws ≡ Ok (y, more) → P y more
made_takes {Y = Y} {r = r} law make P ws y more this h =
    let x = bind_ok (r ws) (λ x. Ok (make x.0, x.1)) (y, more) h in
    let a = law.takes ws x.0.0 x.0.1 x.1 in
    subst (λ (z : Y × List (List ℕ)). P z.0 z.1) (ok_is (make x.0.0, x.0.1) (y, more) x.2) (this x.0.0 x.0.1 a.1 a.0)

pub bare_at_kind : {Y : Type 0} (P : Y → List (List ℕ) → Type 0) (tag : List ℕ) (ws : List (List ℕ)) (x y : Y) (more : List (List ℕ)) (others : Result (Y × List (List ℕ)) WordFault) → ((more : List (List ℕ)) → ws ≡ tag ∷ more → P x more) → (others ≡ Ok (y, more) → P y more) → cond (starts tag ws) (Ok (x, drop 1 ws)) others ≡ Ok (y, more) → P y more
bare_at_kind {Y = Y} P tag ws x y more others this that h = kind_ok (P y more) tag ws _ others (y, more) (λ is e.
    subst (λ (z : Y × List (List ℕ)). P z.0 z.1) (ok_is (x, drop 1 ws) (y, more) e) (this (drop 1 ws) is)) that h

pub at_kind : {X Y : Type 0} {r : Reads X} {t : X → List (List ℕ)} {F : X → Type 0} → Law r t F → (make : X → Y) (P : Y → List (List ℕ) → Type 0) (tag : List ℕ) (ws : List (List ℕ)) (y : Y) (more : List (List ℕ)) (others : Result (Y × List (List ℕ)) WordFault) → ((x : X) (more : List (List ℕ)) → F x → ws ≡ tag ∷ (t x ++ more) → P (make x) more) → (others ≡ Ok (y, more) → P y more) → cond (starts tag ws) (made_at r make (drop 1 ws)) others ≡ Ok (y, more) → P y more
at_kind law make P tag ws y more others this that h = kind_ok (P y more) tag ws _ others (y, more) (λ is e.
    made_takes law make P (drop 1 ws) y more (λ x more f rest. this x more f (is ∙ ap (λ (v : List (List ℕ)). tag ∷ v) rest)) e) that h

-- at the end of a line
pub last_again : {X Y : Type 0} {r : Reads X} {t : X → List (List ℕ)} {F : X → Type 0} → Law r t F → (make : X → Y) (x : X) → F x → last_of r make (t x) ≡ Ok (make x)
last_again {X = X} {r = r} {t = t} law make x fits =
    ap (last_of r make) (sym (append-nil (t x)))
    ∙ ap (λ (x : Result (X × List (List ℕ)) WordFault). x >>= λ x. ended (make x.0, x.1)) (law.again x [] fits)

pub last_kind : {X Y : Type 0} {r : Reads X} {t : X → List (List ℕ)} {F : X → Type 0} → Law r t F → (make : X → Y) (P : Y → Type 0) (tag : List ℕ) (ws : List (List ℕ)) (y : Y) (others : Result Y WordFault) → ((x : X) → F x → ws ≡ tag ∷ t x → P (make x)) → (others ≡ Ok y → P y) → cond (starts tag ws) (last_of r make (drop 1 ws)) others ≡ Ok y → P y
last_kind {X = X} {Y = Y} {r = r} {t = t} law make P tag ws y others this that h = kind_ok (P y) tag ws _ others y (λ is e.
    let x = bind_ok (r (drop 1 ws)) (λ x. ended (make x.0, x.1)) y e in
    let a = law.takes (drop 1 ws) x.0.0 x.0.1 x.1 in
    let end = ended_ok (make x.0.0) x.0.1 y x.2 in
    subst P end.1
    (this x.0.0 a.1 (is ∙ ap (λ (v : List (List ℕ)). tag ∷ v) (a.0 ∙ ap (λ (v : List (List ℕ)). t x.0.0 ++ v) end.0 ∙ append-nil (t x.0.0))))) that h

-- with nothing more
pub bare_kind : {Y : Type 0} (P : Y → Type 0) (tag : List ℕ) (ws : List (List ℕ)) (x y : Y) (others : Result Y WordFault) → (ws ≡ tag ∷ [] → P x) → (others ≡ Ok y → P y) → cond (starts tag ws) (ended (x, drop 1 ws)) others ≡ Ok y → P y
bare_kind P tag ws x y others this that h = kind_ok (P y) tag ws _ others y (λ is e.
    let end = ended_ok x (drop 1 ws) y e in
    subst P end.1 (this (is ∙ ap (λ (v : List (List ℕ)). tag ∷ v) end.0))) that h

-- with a value that ends the line behind another one
pub then_again : {X Y Z : Type 0} {r : Reads X} {t : X → List (List ℕ)} {F : X → Type 0} {q : List (List ℕ) → Result Y WordFault} {u : Y → List (List ℕ)} {G Found : Y → Type 0} → Law r t F → LastLaw q u G Found → (make : X → Y → Z) (x : X) (y : Y) → F x → G y → then_of r q make (t x ++ u y) ≡ Ok (make x y)
then_again {X = X} {Y = Y} {q = q} {u = u} one two make x y fx fy =
    ap (λ (a : Result (X × List (List ℕ)) WordFault). a >>= λ a. q a.1 >>= λ b. Ok (make a.0 b)) (one.again x (u y) fx)
    ∙ ap (λ (b : Result Y WordFault). b >>= λ b. Ok (make x b)) (two.again y fy)

pub then_takes : {X Y Z : Type 0} {r : Reads X} {t : X → List (List ℕ)} {F : X → Type 0} {q : List (List ℕ) → Result Y WordFault} {u : Y → List (List ℕ)} {G Found : Y → Type 0} → Law r t F → LastLaw q u G Found → (make : X → Y → Z) (P : Z → Type 0) (ws : List (List ℕ)) (z : Z) → ((x : X) (y : Y) → F x → Found y → ws ≡ t x ++ u y → P (make x y)) → then_of r q make ws ≡ Ok z → P z
then_takes {r = r} {t = t} {q = q} one two make P ws z this h =
    let x = bind_ok (r ws) (λ x. q x.1 >>= λ y. Ok (make x.0 y)) z h in
    let y = bind_ok (q x.0.1) (λ y. Ok (make x.0.0 y)) z x.2 in
    let a = one.takes ws x.0.0 x.0.1 x.1 in
    let b = two.takes x.0.1 y.0 y.1 in
    subst P (ok_is (make x.0.0 y.0) z y.2)
    (this x.0.0 y.0 a.1 b.1 (a.0 ∙ ap (λ (v : List (List ℕ)). t x.0.0 ++ v) b.0))

pub then_kind : {X Y Z : Type 0} {r : Reads X} {t : X → List (List ℕ)} {F : X → Type 0} {q : List (List ℕ) → Result Y WordFault} {u : Y → List (List ℕ)} {G Found : Y → Type 0} → Law r t F → LastLaw q u G Found → (make : X → Y → Z) (P : Z → Type 0) (tag : List ℕ) (ws : List (List ℕ)) (z : Z) (others : Result Z WordFault) → ((x : X) (y : Y) → F x → Found y → ws ≡ tag ∷ (t x ++ u y) → P (make x y)) → (others ≡ Ok z → P z) → cond (starts tag ws) (then_of r q make (drop 1 ws)) others ≡ Ok z → P z
then_kind one two make P tag ws z others this that h = kind_ok (P z) tag ws _ others z (λ is e.
    then_takes one two make P (drop 1 ws) z (λ x y fx fy rest. this x y fx fy (is ∙ ap (λ (v : List (List ℕ)). tag ∷ v) rest)) e) that h
