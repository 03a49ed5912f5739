-- Draw after draw.
use Rattle.std.proofs.Common.{◌≡◌, ℕ, ◌+◌, ◌*◌, ℤ, Bool, true, false, not, ◌||◌, if◌then◌else◌, List, [], ◌∷◌, ◌++◌, length, map, refl, ap, sym, ◌∙◌, arith}
use Rattle.std.specs.List.{All, list_any, range_with_len}
use Rattle.std.specs.HashSet.{contains, IsEmpty}
use Rattle.std.proofs.Math.Bool.{or_comm}
use Rattle.std.proofs.lemmas.List.{append-nil}
use Rattle.std.proofs.lemmas.List.Elements.{All-nil, All-push}
use Rattle.std.proofs.lemmas.List.Folds.{list_any-append}
use Rattle.std.proofs.lemmas.List.FromFn.{map-range_with_len_more, length-map-range_with_len}
use Rattle.rand_core.specs.Steps.{first_words}
use Rattle.rand_pcg.specs.Lcg.{Lcg}
use Rattle.rand_pcg.specs.Pcg.{pcg64}
use Rattle.drm_arm.specs.declared.arm.Link.{Link}
use Rattle.drm_arm.specs.Config.{IsConfig}
use Rattle.drm_road.specs.Words.{after_words}
use Rattle.drm_road.specs.Met.{Keys, key_of, Adds}
use Rattle.drm_road.specs.Draws.{is_same, unrepeated, configured, draw_of, draws_of}
use Rattle.drm_road.proofs.WordLemmas.{words_behind, after_add}
use Rattle.drm_road.proofs.RepeatLemmas.{same_keys, same_either_way, unrepeated_push, All-unrepeated, AllPairs-unrepeated}
use Rattle.drm_road.specs.Pairs.{AreLikeNodes}

-- the set has the keys of these configurations, as far as configurations with `joints` joints are asked for
pub record HasMet (met : Keys) (joints : ℕ) (configs : List (List ℤ)) : Type 0 where
  pub exact : (config : List ℤ) → length config ≡ joints → contains is_same met (key_of config) ≡ list_any (is_same config) configs

pub met_none : (met : Keys) (joints : ℕ) → ((key : List ℤ) → contains is_same met key ≡ false) → HasMet met joints []
met_none met joints empty = record { exact = λ config same. empty (key_of config) }

-- one more
pub met_more : (met next : Keys) (joints : ℕ) (configs : List (List ℤ)) (config : List ℤ) (new : Bool) → HasMet met joints configs → length config ≡ joints → Adds met next (key_of config) new → HasMet next joints (configs ++ config ∷ [])
met_more met next joints configs config new h same adds = record {
  exact = λ other counted.
      let keys = adds.keys (key_of other) in
      let swap : is_same (key_of config) (key_of other) ≡ is_same other config = same_keys config other (same ∙ sym counted) ∙ same_either_way config other in
      let end : list_any (is_same other) (configs ++ config ∷ []) ≡ (list_any (is_same other) configs || is_same other config) = list_any-append (is_same other) configs (config ∷ []) ∙ ap (λ b. list_any (is_same other) configs || b) (or_comm (is_same other config) false) in
      keys ∙ (ap (λ b. b || contains is_same met (key_of other)) swap ∙ (ap (λ b. is_same other config || b) (h.exact other counted) ∙ (or_comm (is_same other config) (list_any (is_same other) configs) ∙ sym end)));
}

-- whether it is new
pub met_tells : (met next : Keys) (joints : ℕ) (configs : List (List ℤ)) (config : List ℤ) (new : Bool) → HasMet met joints configs → length config ≡ joints → Adds met next (key_of config) new → new ≡ not (list_any (is_same config) configs)
met_tells met next joints configs config new h same adds = adds.tells ∙ ap not (h.exact config same)

-- after some draws
pub record IsSampling (links : List Link) (from : Lcg) (k : ℕ) (nodes : List (List ℤ)) (met : Keys) (now : Lcg) : Type 0 where
  pub drawn : nodes ≡ unrepeated (draws_of links from k)
  pub state : now ≡ after_words pcg64 (k * length links) from
  pub configs : All (IsConfig links) (draws_of links from k)
  pub keys : HasMet met (length links) (draws_of links from k)

kept_more : (nodes : List (List ℤ)) (config : List ℤ) (met new : Bool) → new ≡ not met → (if new then nodes ++ config ∷ [] else nodes) ≡ nodes ++ (if met then [] else config ∷ [])
kept_more nodes config true true is = cc
kept_more nodes config true false is = sym (append-nil nodes)
kept_more nodes config false true is = refl
kept_more nodes config false false is = cc

-- one draw more
draws_more : (links : List Link) (from : Lcg) (k : ℕ) (config : List ℤ) → config ≡ draw_of links from k → draws_of links from (k + 1) ≡ draws_of links from k ++ config ∷ []
unfolding draws_of
draws_more links from k config is = map-range_with_len_more (draw_of links from) 0 k k (omega arith) ∙ ap (λ x. map (draw_of links from) (range_with_len 0 k) ++ x ∷ []) (sym is)

pub sampling_more : (links : List Link) (from : Lcg) (k : ℕ) (nodes : List (List ℤ)) (met : Keys) (now : Lcg) (config : List ℤ) (after : Lcg) (next : Keys) (new : Bool) → IsSampling links from k nodes met now
    → config ≡ configured links (first_words pcg64 (length links) now) → after ≡ after_words pcg64 (length links) now → IsConfig links config → Adds met next (key_of config) new
    → IsSampling links from (k + 1) (if new then nodes ++ config ∷ [] else nodes) next after
sampling_more links from k nodes met now config after next new h is rest valid adds =
    let draw_is : config ≡ draw_of links from k = is ∙ (ap (λ s. configured links (first_words pcg64 (length links) s)) h.state ∙ ap (configured links) (sym (words_behind pcg64 (k * length links) (length links) from))) in
    let draws_are : draws_of links from (k + 1) ≡ draws_of links from k ++ config ∷ [] = draws_more links from k config draw_is in
    let tells = met_tells met next (length links) (draws_of links from k) config new h.keys (sym valid.counted) adds in
    let times : (k + 1) * length links ≡ k * length links + length links = omega arith in
    record {
      drawn = kept_more nodes config (list_any (is_same config) (draws_of links from k)) new tells ∙ (ap (λ xs. xs ++ (if list_any (is_same config) (draws_of links from k) then [] else config ∷ [])) h.drawn ∙ (sym (unrepeated_push (draws_of links from k) config) ∙ ap unrepeated (sym draws_are)));
      state = rest ∙ (ap (λ s. after_words pcg64 (length links) s) h.state ∙ (sym (after_add pcg64 (k * length links) (length links) from) ∙ ap (λ n. after_words pcg64 n from) (sym times)));
      configs = rw draws_are (All-push (IsConfig links) (draws_of links from k) config h.configs valid);
      keys = rw draws_are (met_more met next (length links) (draws_of links from k) config new h.keys (sym valid.counted) adds);
    }

pub draws_counted : (links : List Link) (from : Lcg) (k : ℕ) → length (draws_of links from k) ≡ k
unfolding draws_of
draws_counted links from k = length-map-range_with_len (draw_of links from) 0 k

pub sampling_none : (links : List Link) (from : Lcg) (met : Keys) → IsEmpty met → IsSampling links from 0 [] met from
unfolding after_words draws_of unrepeated
sampling_none links from met empty = let none : 0 * length links ≡ 0 = omega arith in record {
  drawn = refl;
  state = rw none refl;
  configs = All-nil (IsConfig links);
  keys = met_none met (length links) (λ key. rw empty refl);
}

-- configurations of one arm, each once, may be the nodes of a roadmap
pub unrepeated_alike : (links : List Link) (configs : List (List ℤ)) → All (IsConfig links) configs → AreLikeNodes (unrepeated configs)
unrepeated_alike links configs each =
    let kept = All-unrepeated (IsConfig links) configs each in
    record {
      joints = λ i j below_i below_j. sym (kept i [] below_i).counted ∙ (kept j [] below_j).counted;
      distinct = AllPairs-unrepeated configs;
    }
