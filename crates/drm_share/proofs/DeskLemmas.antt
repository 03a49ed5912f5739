-- What the desk's tests show, and what one more edit does.
use Rattle.std.proofs.Common.{◌≡◌, ℕ, ◌+◌, ◌<◌, ◌≢◌, Bool, true, false, cond, ltb, eqb, ◌&&◌, List, [], ◌∷◌, ◌++◌, length, length-append, set, get_or, get_or-set_same, get_or-set_other, refl, sym, ◌∙◌, ap, subst, arith, inl, inr, Option, Some, None, IfSome, eq-eqb, ltb-true, lt-ltb, slice_index}
use Rattle.std.specs.Prelude.{is_some, ◌||◌, slice_set}
use Rattle.std.proofs.lemmas.Bool.Decides.{eqb_tells}
use Rattle.std.proofs.lemmas.List.Sums.{fold_push}
use Rattle.drm_shape.specs.Validity.{IsValid}
use Rattle.drm_grid.specs.Layout.{Layout}
use Rattle.drm_foot.specs.Placed.{Placed}
use Rattle.drm_talk.specs.declared.Entry.{Entry}
use Rattle.drm_talk.specs.History.{MayFollow, made_by, shape_in}
use Rattle.drm_talk.specs.Limits.{slots, full}
use Rattle.logbook.specs.Pages.{Book}
use Rattle.drm_cellmap.specs.Roadmap.{Roadmap}
use Rattle.drm_state.specs.Scene.{Scene}
use Rattle.drm_state.specs.Edit.{Edit, lies_on, takes}
use Rattle.drm_num.specs.FirstBroken.{unless, first_of}
use Rattle.drm_share.specs.declared.shown.Shown.{Shown}
use Rattle.drm_share.specs.declared.shown.Update.{Update}
use Rattle.drm_share.specs.declared.fault.EditFault.{EditFault}
use Rattle.drm_share.specs.Limits.{most_callers}
use Rattle.drm_share.specs.Made.{AreMade}
use Rattle.drm_share.specs.Refusal.{refusal}
use Rattle.drm_share.specs.Published.{next, Shows, CanFollow}

-- a footprint of the grid lies on it
lies : (grid : Layout) (foot : Option Placed) → IfSome foot (λ placed. placed.grid ≡ grid) → lies_on grid foot ≡ true
lies grid None on = refl
lies grid (Some placed) on =
    let side : eqb placed.grid.side grid.side ≡ true = eq-eqb _ _ (ap (λ (g : Layout). g.side) on) in
    let n : eqb placed.grid.n grid.n ≡ true = eq-eqb _ _ (ap (λ (g : Layout). g.n) on) in
    rw (side, n) refl

-- the state takes an edit that may follow
pub taken : (scene : Scene) (edit : Edit) → MayFollow scene.journal edit.entry (length scene.journal) → IfSome edit.foot (λ placed. placed.grid ≡ scene.map.grid) → takes scene edit ≡ true
taken scene edit may on =
    let grid = lies scene.map.grid edit.foot on in
    let room : ltb (length scene.journal) full ≡ true = lt-ltb _ _ may.room in
    let slot : ltb edit.entry.slot slots ≡ true = lt-ltb _ _ may.slot in
    rw (grid, room, slot) refl

-- an edit that may follow is published with the history that ends with it
pub added : (book : Book) (map : Roadmap) (history : List Entry) (shown : Shown) (update : Update) → Shows book map history shown
    → MayFollow history update.op.entry (length history) → IfSome update.op.foot (λ placed. placed.grid ≡ map.grid)
    → update.reach.book ≡ book → update.reach.log ≡ history ++ update.op.entry ∷ []
    → CanFollow shown update × Shows book map (history ++ update.op.entry ∷ []) (next shown update)
added book map history shown update shows may on of_book of_log =
    let may' : MayFollow shown.state.journal update.op.entry (length shown.state.journal) =
    subst (λ (h : List Entry). MayFollow h update.op.entry (length h)) (sym shows.stands) may in
    let on' : IfSome update.op.foot (λ placed. placed.grid ≡ shown.state.map.grid) =
    subst (λ (m : Roadmap). IfSome update.op.foot (λ placed. placed.grid ≡ m.grid)) (sym shows.of_map) on in
    let yes = taken shown.state update.op may' on' in
    let journal : (next shown update).state.journal ≡ history ++ update.op.entry ∷ [] =
    rw yes (ap (λ (h : List Entry). h ++ update.op.entry ∷ []) shows.stands) in
    let of_map : (next shown update).state.map ≡ map = rw yes shows.of_map in (
      record { stands = journal ∙ sym of_log; of_book = of_book ∙ sym shows.of_book },
      record { of_book = of_book; of_map = of_map; seen = of_log; stands = journal },
    )

-- both, where the second does not hold
and_false : (a b : Bool) → b ≡ false → (a && b) ≡ false
and_false true b is = is
and_false false b is = refl

-- an update that no state takes leaves the value as it was
pub idle : (book : Book) (map : Roadmap) (shown : Shown) (update : Update) → Shows book map [] shown → update.op.entry.slot ≡ slots
    → update.reach.book ≡ book → update.reach.log ≡ [] → CanFollow shown update × Shows book map [] (next shown update)
idle book map shown update shows none of_book of_log =
    let out : ltb update.op.entry.slot slots ≡ false = ap (λ (s : ℕ). ltb s slots) none in
    let lacks : takes shown.state update.op ≡ false = and_false _ _ out in
    let journal : (next shown update).state.journal ≡ [] = rw lacks shows.stands in
    let of_map : (next shown update).state.map ≡ map = rw lacks shows.of_map in (
      record { stands = journal ∙ sym of_log; of_book = of_book ∙ sym shows.of_book },
      record { of_book = of_book; of_map = of_map; seen = of_log; stands = journal },
    )

-- how many entries a caller has after one more
pub made_push : (caller : ℕ) (history : List Entry) (entry : Entry) → made_by caller (history ++ entry ∷ []) ≡ made_by caller history + cond (eqb entry.caller caller) 1 0
made_push caller history entry = fold_push (λ (n : ℕ) (e : Entry). n + cond (eqb e.caller caller) 1 0) 0 history entry

-- the caller has one more entry, and the others have what they had
pub made_more : (history : List Entry) (entry : Entry) (made : List ℕ) → AreMade history made → length made ≡ most_callers → entry.caller < most_callers → length history < full
    → AreMade (history ++ entry ∷ []) (slice_set made entry.caller (slice_index made entry.caller + 1))
made_more history entry made are long below room = record {
  within = omega (arith, length-append history (entry ∷ []));
  exact = λ caller in_range. elim (eqb_tells entry.caller caller) [
    | inl is ↦
        let same : entry.caller ≡ caller = is.1 in
        let here : get_or (set made entry.caller (slice_index made entry.caller + 1)) entry.caller 0 ≡ slice_index made entry.caller + 1 =
        get_or-set_same made entry.caller (slice_index made entry.caller + 1) 0 (omega arith) in
        let step : made_by caller (history ++ entry ∷ []) ≡ made_by caller history + 1 = made_push caller history entry ∙ rw is.0 refl in
        let old = are.exact caller in_range in
        subst (λ (c : ℕ). slice_index (slice_set made entry.caller (slice_index made entry.caller + 1)) c ≡ made_by caller (history ++ entry ∷ [])) same
        (here ∙ (ap (λ (c : ℕ). slice_index made c + 1) same ∙ (ap (λ (n : ℕ). n + 1) old ∙ sym step)))
    | inr is ↦
        let apart : caller ≢ entry.caller = λ e. is.1 (sym e) in
        let there : get_or (set made entry.caller (slice_index made entry.caller + 1)) caller 0 ≡ slice_index made caller =
        get_or-set_other made entry.caller caller (slice_index made entry.caller + 1) 0 apart in
        let step : made_by caller (history ++ entry ∷ []) ≡ made_by caller history = made_push caller history entry ∙ rw is.0 (omega arith) in
        there ∙ (are.exact caller in_range ∙ sym step)
  ];
}

-- each of three rules is kept where none is told
all_kept : (x y z : EditFault) (a b c : Bool) → first_of (unless a x ∷ unless b y ∷ unless c z ∷ []) ≡ None → (a ≡ true) × (b ≡ true) × (c ≡ true)
all_kept x y z true true true is = (refl, refl, refl)
all_kept x y z true true false is = absurd (cc)
all_kept x y z true false c is = absurd (cc)
all_kept x y z false b c is = absurd (cc)

-- one of two holds, and not the first
second : (a b : Bool) → (a || b) ≡ true → a ≡ false → b ≡ true
second true b either_one not_first = absurd (cc)
second false b either_one not_first = either_one

-- an entry that is not refused may follow, where its number is the caller's next
pub may_follow : (history : List Entry) (entry : Entry) → refusal history entry ≡ None → IfSome entry.shape IsValid → entry.seq ≡ made_by entry.caller history + 1 → MayFollow history entry (length history)
may_follow history entry none valid numbered =
    let tests = all_kept _ _ _ (ltb entry.slot slots) (ltb (length history) full) (is_some entry.shape || is_some (shape_in history entry.slot)) none in
    record {
      room = ltb-true _ _ tests.1;
      slot = ltb-true _ _ tests.0;
      shape = valid;
      found = λ deletes. second (is_some entry.shape) (is_some (shape_in history entry.slot)) tests.2 deletes;
      numbered = numbered;
    }
