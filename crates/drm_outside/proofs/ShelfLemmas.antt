-- What a map of texts holds at a name, as a list of names with their bytes.
use Rattle.std.proofs.Common.{◌≡◌, Bool, true, false, List, [], ◌∷◌, ℕ, Option, Some, String, BTreeMap, refl, sym, ◌∙◌, ap, map, cond}
use Rattle.std.specs.Option.{option_map}
use Rattle.std.specs.Map.{lookup}
use Rattle.std.specs.Str.{bytes_eq}
use Rattle.std.specs.String.{string_bytes, string_cmp}
use Rattle.std.specs.Ordering.{is_eq, nat_cmp}
use Rattle.std.specs.Cmp.Lexicographic.{slice_cmp}
use Rattle.std.specs.BTreeMap.{get_by_text, UpdatesBy}
use Rattle.std.proofs.lemmas.Bool.{false_from_ne_true}
use Rattle.std.proofs.lemmas.Slice.Eq.{bytes_eq-Decides}
use Rattle.std.proofs.lemmas.Map.Text.{is_eq-slice_cmp, btree_map_updates_text}

module _ {X : Type 0} (items : X → List ℕ) where
  -- the first of two values that are told apart by a test
  either : (b : Bool) (x : X) (rest : Option (List ℕ)) (other : Option X) → rest ≡ option_map items other → cond b (Some (items x)) rest ≡ option_map items (cond b (Some x) other)
  either true x rest other same = refl
  either false x rest other same = same

  -- the first entry that has the name, with the bytes alone
  lookup_map : {K : Type 0} (test : K → Bool) (text : K → List ℕ) (name : List ℕ) → ((k : K) → bytes_eq name (text k) ≡ test k) → (es : List (K × X)) → lookup (bytes_eq name) (map (λ e. (text e.0, items e.1)) es) ≡ option_map items (lookup test es)
  lookup_map test text name same [] = refl
  lookup_map test text name same (e ∷ es) =
      rw (same e.0) (either (test e.0) e.1 (lookup (bytes_eq name) (map (λ e. (text e.0, items e.1)) es)) (lookup test es) (lookup_map test text name same es))

  -- the names and their bytes
  abbrev pub told : {Y : Type 0} → BTreeMap (String Y) X → List (List ℕ × List ℕ)
  told m = map (λ e. (string_bytes e.0, items e.1)) m.entries

  module _ {Y : Type 0} where
    -- what the list of names tells is what the map holds
    pub told_by_map : (name : List ℕ) (m : BTreeMap (String Y) X) → lookup (bytes_eq name) (told m) ≡ option_map items (get_by_text m name)
    told_by_map name m = lookup_map (λ k. is_eq (slice_cmp nat_cmp name (string_bytes k))) string_bytes name (λ k. sym (is_eq-slice_cmp name (string_bytes k))) m.entries

    -- after an insert the name holds its bytes
    pub told_here : (name : List ℕ) (m n : BTreeMap (String Y) X) (x : X) → UpdatesBy string_cmp (λ k. slice_cmp nat_cmp name (string_bytes k)) m n (Some x) → lookup (bytes_eq name) (told n) ≡ Some (items x)
    told_here name m n x updates = told_by_map name n ∙ ap (option_map items) (btree_map_updates_text name m n (Some x) updates name ∙ ap (λ b. cond b (Some x) (get_by_text m name)) ((bytes_eq-Decides name name).1 refl))

    -- and each other name what it held
    pub told_elsewhere : (name : List ℕ) (m n : BTreeMap (String Y) X) (x : X) → UpdatesBy string_cmp (λ k. slice_cmp nat_cmp name (string_bytes k)) m n (Some x) → (other : List ℕ) → (other ≡ name → ⊥) → lookup (bytes_eq other) (told n) ≡ lookup (bytes_eq other) (told m)
    told_elsewhere name m n x updates other apart =
        let differs : bytes_eq name other ≡ false = false_from_ne_true _ (λ same. apart (sym ((bytes_eq-Decides name other).0 same))) in
        told_by_map other n ∙ ap (option_map items) (btree_map_updates_text name m n (Some x) updates other ∙ ap (λ b. cond b (Some x) (get_by_text m other)) differs) ∙ sym (told_by_map other m)
