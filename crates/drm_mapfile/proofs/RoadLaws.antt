-- The road: what is read is a road of configurations and spelled so, and what was spelled is read again.
use Rattle.std.proofs.Common.{◌≡◌, ◌≢◌, ◌⊎◌, inl, inr, ℕ, zero, suc, ◌-◌, ◌^◌, ◌<◌, ◌≤◌, ℤ, Bool, true, false, cond, ◌&&◌, ◌||◌, nat_le, nat_lt, IsTrue, List, [], ◌∷◌, ◌++◌, length, get_or, Result, Ok, Err, refl, sym, ap, subst, ◌∙◌, append_assoc, arith}
use Rattle.std.specs.Prelude.{All, AllPairs, flat_map}
use Rattle.std.specs.List.{zip, list_any}
use Rattle.std.specs.Int.{w16, w32, to_be_bytes}
use Rattle.std.proofs.lemmas.Bool.Decides.{nat_tests, Decides-int_eq}
use Rattle.std.proofs.lemmas.Slice.Eq.{slice_eq-Decides}
use Rattle.std.proofs.lemmas.Bool.{cases_lt}
use Rattle.std.proofs.lemmas.List.{append-nil, length-append}
use Rattle.std.proofs.lemmas.Option.{get_or_from_slice_get, slice_get_within, slice_get-get_or}
use Rattle.std.proofs.lemmas.List.Concat.{flat_map-cons}
use Rattle.std.proofs.lemmas.List.Elements.{All-head, All-tail}
use Rattle.std.proofs.lemmas.List.Folds.{list_any_at, list_any_none}
use Rattle.std.proofs.lemmas.List.Quantifiers.{all_pairs_push}
use Rattle.std.proofs.Math.ListN.{get_or-append}
use Rattle.std.proofs.Math.Seq.{get_or-append_seam}
use Rattle.drm_arm.specs.declared.arm.Link.{Link}
use Rattle.drm_arm.specs.Arm.{has_limits}
use Rattle.drm_arm.specs.Config.{allows, IsConfig}
use Rattle.drm_road.specs.Draws.{is_same}
use Rattle.drm_road.specs.Limits.{max_nodes, max_edges}
use Rattle.drm_road.specs.Pairs.{Precedes}
use Rattle.drm_road.specs.Road.{Road, IsRoad}
use Rattle.drm_mapfile.specs.declared.fault.FileFault.{FileFault}
use Rattle.drm_mapfile.specs.declared.fault.FileFault.TheVariants.{Field}
use Rattle.drm_mapfile.specs.Fields.{◌>>=◌, number_field, signed_field, many}
use Rattle.drm_mapfile.specs.Text.{number, signed, node_text, nodes_text, edge_text, edges_text, road_text}
use Rattle.drm_mapfile.specs.Reading.{coordinates_at, node_at, nodes_at, edge_at, last_edge, edges_at, road_at}
use Rattle.drm_mapfile.proofs.FieldLaws.{IsBytes, Takes, takes_then, bind_ok, guard_ok, ok_is, on_ok, both, together, wide16, wide32, number_takes, number_again, signed_takes, signed_again}
use Rattle.drm_mapfile.proofs.ManyLaws.{AllAfter, all_takes, many_again, after_all}
use Rattle.drm_mapfile.proofs.ArmLaws.{fits_between}
use Rattle.drm_mapfile.proofs.RoadLoops.{with_first, is_config}

-- ---- coordinates

coordinates_take : (total : ℕ) (links : List Link) (s : List ℕ) (zs : List ℤ) (more : List ℕ) → IsBytes s → coordinates_at total links s ≡ Ok (zs, more) → Takes s (node_text zs) more
unfolding coordinates_at
coordinates_take total [] s zs more fits e =
    subst (λ (y : List ℤ × List ℕ). Takes s (node_text y.0) y.1) (ok_is ([], s) (zs, more) e) (record { parts = refl; rest_fits = fits })
coordinates_take total (link ∷ links) s zs more fits e =
    let z = bind_ok (signed_field total (allows link) s) (with_first total links) (zs, more) e in
    let rest = bind_ok (coordinates_at total links z.0.1) (λ zs. Ok (z.0.0 ∷ zs.0, zs.1)) (zs, more) z.2 in
    let t0 = signed_takes total (allows link) s z.0.0 z.0.1 fits z.1 in
    let t1 = coordinates_take total links z.0.1 rest.0.0 rest.0.1 t0.0.rest_fits rest.1 in
    let joined = takes_then s (signed z.0.0) z.0.1 (node_text rest.0.0) rest.0.1 t0.0 t1 in
    subst (λ (y : List ℤ × List ℕ). Takes s (node_text y.0) y.1) (ok_is (z.0.0 ∷ rest.0.0, rest.0.1) (zs, more) rest.2)
    (subst (λ (t : List ℕ). Takes s t rest.0.1) (sym (flat_map-cons signed z.0.0 rest.0.0)) joined)

coordinates_again : (total : ℕ) (links : List Link) (zs : List ℤ) (more : List ℕ) → All (λ link. IsTrue (has_limits link)) links → IsConfig links zs → coordinates_at total links (node_text zs ++ more) ≡ Ok (zs, more)
unfolding coordinates_at
coordinates_again total [] [] more limits config = refl
coordinates_again total [] (z ∷ zs) more limits config = absurd (omega (arith, config.counted))
coordinates_again total (link ∷ links) [] more limits config = absurd (omega (arith, config.counted))
coordinates_again total (link ∷ links) (z ∷ zs) more limits config =
    let P : Link × ℤ → Type 0 = λ pair. IsTrue (allows pair.0 pair.1) in
    let L : Link → Type 0 = λ link. IsTrue (has_limits link) in
    let here : IsTrue (allows link z) = All-head P (link, z) (zip links zs) config.within in
    let fits = fits_between link.lo link.hi z (All-head L link links limits) here in
    let others : IsConfig links zs = record { counted = omega (arith, config.counted); within = All-tail P (link, z) (zip links zs) config.within } in
    let regrouped : node_text (z ∷ zs) ++ more ≡ signed z ++ (node_text zs ++ more) = ap (λ (t : List ℕ). t ++ more) (flat_map-cons signed z zs) ∙ append_assoc (signed z) (node_text zs) more in
    ap (coordinates_at total (link ∷ links)) regrouped
    ∙ on_ok (signed_field total (allows link) (signed z ++ (node_text zs ++ more))) (with_first total links) (z, node_text zs ++ more) (Ok (z ∷ zs, more)) (signed_again total (allows link) z (node_text zs ++ more) fits here)
    (on_ok (coordinates_at total links (node_text zs ++ more)) (λ ys. Ok (z ∷ ys.0, ys.1)) (zs, more) (Ok (z ∷ zs, more)) (coordinates_again total links zs more (All-tail L link links limits) others) refl)

-- ---- nodes

same_means : (one other : List ℤ) → is_same one other ≡ true → one ≡ other
same_means one other h = (slice_eq-Decides Decides-int_eq one other (is_same one other) refl).0 h

same_is : (one other : List ℤ) → one ≡ other → is_same one other ≡ true
same_is one other h = (slice_eq-Decides Decides-int_eq one other (is_same one other) refl).1 h

abbrev was_met : List (List ℤ) → List ℤ → Bool
was_met front node = list_any (λ other. is_same other node) front

-- a node may stand behind others
abbrev pub NodeFits : List Link → List (List ℤ) → List ℤ → Type 0
NodeFits links front node = IsConfig links node × (was_met front node ≡ false)

abbrev with_node : ℕ → List ℕ → List (List ℤ) → List ℤ × List ℕ → Result (List ℤ × List ℕ) FileFault
with_node total bytes front node = cond (was_met front node.0) (Err (Field (total - length bytes))) (Ok node)

node_takes : (total : ℕ) (links : List Link) (front : List (List ℤ)) (s : List ℕ) (node : List ℤ) (more : List ℕ) → IsBytes s → node_at total links front s ≡ Ok (node, more) → Takes s (node_text node) more × NodeFits links front node
unfolding node_at
node_takes total links front s node more fits e =
    let x = bind_ok (coordinates_at total links s) (with_node total s front) (node, more) e in
    let g = guard_ok (was_met front x.0.0) (Field (total - length s)) x.0 (node, more) x.2 in
    subst (λ (y : List ℤ × List ℕ). Takes s (node_text y.0) y.1 × NodeFits links front y.0) g.1
    (coordinates_take total links s x.0.0 x.0.1 fits x.1, (is_config total links s x.0.0 x.0.1 x.1, g.0))

node_again : (total : ℕ) (links : List Link) (front : List (List ℤ)) (node : List ℤ) (more : List ℕ) → All (λ link. IsTrue (has_limits link)) links → NodeFits links front node → node_at total links front (node_text node ++ more) ≡ Ok (node, more)
unfolding node_at
node_again total links front node more limits fit =
    on_ok (coordinates_at total links (node_text node ++ more)) (with_node total (node_text node ++ more) front) (node, more) (Ok (node, more)) (coordinates_again total links node more limits fit.0)
    (ap (λ (b : Bool). cond b (Err (Field (total - length (node_text node ++ more)))) (Ok (node, more))) fit.1)

abbrev Differ : List ℤ → List ℤ → Type 0
Differ one other = one ≢ other

true_false : (b : Bool) → b ≡ true → b ≡ false → ⊥
true_false true h k = cc
true_false false h k = cc

distinct_after : (links : List Link) (front nodes : List (List ℤ)) → AllPairs Differ front → AllAfter (NodeFits links) front nodes → AllPairs Differ (front ++ nodes)
distinct_after links front [] pairs fit = rw append-nil pairs
distinct_after links front (node ∷ nodes) pairs fit =
    let apart : (k : ℕ) (d : List ℤ) → k < length front → Differ (get_or front k d) node = λ k d below is. true_false (was_met front node) (list_any_at (λ other. is_same other node) front k d below (same_is (get_or front k d) node is)) fit.0.1 in
    let pushed = all_pairs_push Differ front node pairs apart in
    subst (λ (xs : List (List ℤ)). AllPairs Differ xs) (append_assoc front (node ∷ []) nodes) (distinct_after links (front ++ node ∷ []) nodes pushed fit.1)

no_truth : (b : Bool) → (b ≡ true → ⊥) → b ≡ false
no_truth true h = absurd (h refl)
no_truth false h = refl

nodes_fit : (links : List Link) (front nodes : List (List ℤ)) → All (IsConfig links) nodes → AllPairs Differ (front ++ nodes) → AllAfter (NodeFits links) front nodes
nodes_fit links front [] configs pairs = tt
nodes_fit links front (node ∷ nodes) configs pairs =
    let apart : All (λ other. is_same other node ≡ false) front = λ k d below. no_truth (is_same (get_or front k d) node) (λ same.
    pairs k (length front) d below (omega (arith, length-append front (node ∷ nodes)))
    (get_or-append front (node ∷ nodes) d k below ∙ same_means (get_or front k d) node same ∙ sym (get_or-append_seam front node nodes d))) in
    let regrouped = subst (λ (xs : List (List ℤ)). AllPairs Differ xs) (sym (append_assoc front (node ∷ []) nodes)) pairs in
    ((All-head (IsConfig links) node nodes configs, list_any_none (λ other. is_same other node) front apart), nodes_fit links (front ++ node ∷ []) nodes (All-tail (IsConfig links) node nodes configs) regrouped)

abbrev nodes_keep : ℕ → Bool
nodes_keep n = nat_le 1 n && nat_le n max_nodes

abbrev with_nodes : ℕ → List Link → ℕ × List ℕ → Result (List (List ℤ) × List ℕ) FileFault
with_nodes total links count = many (node_at total links) count.0 [] count.1

nodes_mean : (n : ℕ) → nodes_keep n ≡ true → (1 ≤ n) × (n ≤ max_nodes)
nodes_mean n h = let p = both (nat_le 1 n) (nat_le n max_nodes) h in (some n p.0, few n p.1) where
  some : (m : ℕ) → nat_le 1 m ≡ true → 1 ≤ m
  some m k = grind (arith, nat_tests)

  few : (m : ℕ) → nat_le m max_nodes ≡ true → m ≤ max_nodes
  few m k = grind (arith, nat_tests)

nodes_are : (n : ℕ) → 1 ≤ n → n ≤ max_nodes → nodes_keep n ≡ true
nodes_are n some few = together (nat_le 1 n) (nat_le n max_nodes) (a n some) (b n few) where
  a : (m : ℕ) → 1 ≤ m → nat_le 1 m ≡ true
  a m k = grind (arith, nat_tests)

  b : (m : ℕ) → m ≤ max_nodes → nat_le m max_nodes ≡ true
  b m k = grind (arith, nat_tests)

-- nodes as a road has them
pub record AreNodes (links : List Link) (nodes : List (List ℤ)) : Type 0 where
  pub some : 1 ≤ length nodes
  pub few : length nodes ≤ max_nodes
  pub configs : All (IsConfig links) nodes
  pub distinct : AllPairs Differ nodes

no_pairs : AllPairs Differ []
no_pairs = λ i j d before below. absurd (omega arith)

nodes_take : (total : ℕ) (links : List Link) (s : List ℕ) (nodes : List (List ℤ)) (more : List ℕ) → IsBytes s → nodes_at total links s ≡ Ok (nodes, more) → Takes s (nodes_text nodes) more × AreNodes links nodes
unfolding nodes_at
nodes_take total links s nodes more fits e =
    let count = bind_ok (number_field w16 total nodes_keep s) (with_nodes total links) (nodes, more) e in
    let t0 = number_takes w16 (2 ^ 16) wide16 total nodes_keep s count.0.0 count.0.1 fits count.1 in
    let range = nodes_mean count.0.0 t0.2 in
    let t1 = all_takes (node_at total links) node_text (NodeFits links) (node_takes total links) count.0.0 nodes count.0.1 more t0.0.rest_fits count.2 in
    let joined = takes_then s (number count.0.0) count.0.1 (flat_map node_text nodes) more t0.0 t1.taken in (
      subst (λ (n : ℕ). Takes s (number n ++ flat_map node_text nodes) more) (sym t1.counted) joined,
      record {
        some = omega (arith, t1.counted);
        few = omega (arith, t1.counted);
        configs = after_all (NodeFits links) (IsConfig links) (λ front node fit. fit.0) [] nodes t1.fit;
        distinct = distinct_after links [] nodes no_pairs t1.fit;
      },
    )

small16 : (n : ℕ) → n ≤ max_nodes → n < 2 ^ 16
small16 n h = omega arith

nodes_again : (total : ℕ) (links : List Link) (nodes : List (List ℤ)) (more : List ℕ) → All (λ link. IsTrue (has_limits link)) links → AreNodes links nodes → nodes_at total links (nodes_text nodes ++ more) ≡ Ok (nodes, more)
unfolding nodes_at
nodes_again total links nodes more limits are =
    let behind = flat_map node_text nodes ++ more in
    ap (nodes_at total links) (append_assoc (number (length nodes)) (flat_map node_text nodes) more)
    ∙ on_ok (number_field w16 total nodes_keep (number (length nodes) ++ behind)) (with_nodes total links) (length nodes, behind) (Ok (nodes, more)) (number_again w16 (2 ^ 16) wide16 total nodes_keep (length nodes) behind (small16 (length nodes) are.few) (nodes_are (length nodes) are.some are.few))
    (many_again (node_at total links) node_text (NodeFits links) (λ front node more fit. node_again total links front node more limits fit) [] nodes more (nodes_fit links [] nodes are.configs are.distinct))

-- ---- edges

abbrev a_keeps : ℕ → ℕ × ℕ → ℕ → Bool
a_keeps nodes before n = nat_lt n nodes && nat_le before.0 n

abbrev b_keeps : ℕ → ℕ × ℕ → ℕ → ℕ → Bool
b_keeps nodes before a n = nat_lt a n && nat_lt n nodes && (nat_lt before.0 a || nat_lt before.1 n)

-- an edge may stand behind another one
pub record EdgeFits (nodes : ℕ) (before edge : ℕ × ℕ) : Type 0 where
  pub up : edge.0 < edge.1
  pub inside : edge.1 < nodes
  pub after : Precedes before edge

edge_parts : (nodes x y a b : ℕ) → a_keeps nodes (x, y) a ≡ true → b_keeps nodes (x, y) a b ≡ true → (a < b) × (b < nodes) × ((x < a) ⊎ ((x ≡ a) × (y < b)))
edge_parts nodes x y a b ha hb =
    let p = both (nat_lt a nodes) (nat_le x a) ha in
    let q = both (nat_lt a b && nat_lt b nodes) (nat_lt x a || nat_lt y b) hb in
    let r = both (nat_lt a b) (nat_lt b nodes) q.0 in
    (below a b r.0, below b nodes r.1, after (nat_lt x a) refl p.1 q.1) where
      below : (m n : ℕ) → nat_lt m n ≡ true → m < n
      below m n h = grind (arith, nat_tests)

      least : (m n : ℕ) → nat_le m n ≡ true → m ≤ n
      least m n h = grind (arith, nat_tests)

      not_below : (m n : ℕ) → nat_lt m n ≡ false → n ≤ m
      not_below m n h = grind (arith, nat_tests)

      after : (t : Bool) → nat_lt x a ≡ t → nat_le x a ≡ true → (t || nat_lt y b) ≡ true → (x < a) ⊎ ((x ≡ a) × (y < b))
      after true is le h = inl (below x a is)
      after false is le h = let up = least x a le in let down = not_below x a is in inr (omega arith, below y b h)

edge_tests : (nodes x y a b : ℕ) → a < b → b < nodes → (x < a) ⊎ ((x ≡ a) × (y < b)) → (a_keeps nodes (x, y) a ≡ true) × (b_keeps nodes (x, y) a b ≡ true)
edge_tests nodes x y a b up inside (inl less) = (
  together (nat_lt a nodes) (nat_le x a) (is_below a nodes (omega arith)) (is_least x a (omega arith)),
  together (nat_lt a b && nat_lt b nodes) (nat_lt x a || nat_lt y b) (together (nat_lt a b) (nat_lt b nodes) (is_below a b up) (is_below b nodes inside)) (first (nat_lt x a) (nat_lt y b) (is_below x a less)),
) where
  is_below : (m n : ℕ) → m < n → nat_lt m n ≡ true
  is_below m n h = grind (arith, nat_tests)

  is_least : (m n : ℕ) → m ≤ n → nat_le m n ≡ true
  is_least m n h = grind (arith, nat_tests)

  first : (p q : Bool) → p ≡ true → (p || q) ≡ true
  first p q h = rw h refl
edge_tests nodes x y a b up inside (inr same) = (
  together (nat_lt a nodes) (nat_le x a) (is_below a nodes (omega arith)) (is_least x a (omega (arith, same.0))),
  together (nat_lt a b && nat_lt b nodes) (nat_lt x a || nat_lt y b) (together (nat_lt a b) (nat_lt b nodes) (is_below a b up) (is_below b nodes inside)) (second (nat_lt x a) (nat_lt y b) (is_below y b same.1)),
) where
  is_below : (m n : ℕ) → m < n → nat_lt m n ≡ true
  is_below m n h = grind (arith, nat_tests)

  is_least : (m n : ℕ) → m ≤ n → nat_le m n ≡ true
  is_least m n h = grind (arith, nat_tests)

  second : (p q : Bool) → q ≡ true → (p || q) ≡ true
  second true q h = refl
  second false q h = h

abbrev with_b : ℕ → ℕ × List ℕ → Result ((ℕ × ℕ) × List ℕ) FileFault
with_b a b = Ok ((a, b.0), b.1)

abbrev with_a : ℕ → ℕ → ℕ × ℕ → ℕ × List ℕ → Result ((ℕ × ℕ) × List ℕ) FileFault
with_a total nodes before a = number_field w16 total (b_keeps nodes before a.0) a.1 >>= with_b a.0

edge_takes : (total nodes : ℕ) (before : ℕ × ℕ) (s : List ℕ) (edge : ℕ × ℕ) (more : List ℕ) → IsBytes s → edge_at total nodes before s ≡ Ok (edge, more) → Takes s (edge_text edge) more × EdgeFits nodes before edge
unfolding edge_at
edge_takes total nodes before s edge more fits e =
    let a = bind_ok (number_field w16 total (a_keeps nodes before) s) (with_a total nodes before) (edge, more) e in
    let b = bind_ok (number_field w16 total (b_keeps nodes before a.0.0) a.0.1) (with_b a.0.0) (edge, more) a.2 in
    let t0 = number_takes w16 (2 ^ 16) wide16 total (a_keeps nodes before) s a.0.0 a.0.1 fits a.1 in
    let t1 = number_takes w16 (2 ^ 16) wide16 total (b_keeps nodes before a.0.0) a.0.1 b.0.0 b.0.1 t0.0.rest_fits b.1 in
    let parts = edge_parts nodes before.0 before.1 a.0.0 b.0.0 t0.2 t1.2 in
    subst (λ (y : (ℕ × ℕ) × List ℕ). Takes s (edge_text y.0) y.1 × EdgeFits nodes before y.0) (ok_is ((a.0.0, b.0.0), b.0.1) (edge, more) b.2)
    (takes_then s (number a.0.0) a.0.1 (number b.0.0) b.0.1 t0.0 t1.0, record { up = parts.0; inside = parts.1; after = parts.2 })

edge_again : (total nodes : ℕ) (before edge : ℕ × ℕ) (more : List ℕ) → nodes ≤ max_nodes → EdgeFits nodes before edge → edge_at total nodes before (edge_text edge ++ more) ≡ Ok (edge, more)
unfolding edge_at
edge_again total nodes before edge more few fit =
    let tests = edge_tests nodes before.0 before.1 edge.0 edge.1 fit.up fit.inside fit.after in
    let behind = number edge.1 ++ more in
    ap (edge_at total nodes before) (append_assoc (number edge.0) (number edge.1) more)
    ∙ on_ok (number_field w16 total (a_keeps nodes before) (number edge.0 ++ behind)) (with_a total nodes before) (edge.0, behind) (Ok (edge, more)) (number_again w16 (2 ^ 16) wide16 total (a_keeps nodes before) edge.0 behind (omega (arith, fit.up, fit.inside)) tests.0)
    (on_ok (number_field w16 total (b_keeps nodes before edge.0) behind) (with_b edge.0) (edge.1, more) (Ok (edge, more)) (number_again w16 (2 ^ 16) wide16 total (b_keeps nodes before edge.0) edge.1 more (omega (arith, fit.inside)) tests.1) refl)

-- the last edge is at the last place
last_is : (edges : List (ℕ × ℕ)) (d : ℕ × ℕ) → 0 < length edges → get_or edges (length edges - 1) d ≡ last_edge edges
last_is [] d some = absurd (omega arith)
last_is (e ∷ []) d some = refl
last_is (e ∷ f ∷ edges) d some =
    let same : length (e ∷ f ∷ edges) - 1 ≡ suc (length (f ∷ edges) - 1) = omega arith in
    subst (λ (k : ℕ). get_or (e ∷ f ∷ edges) k d ≡ last_edge (e ∷ f ∷ edges)) (sym same) (last_is (f ∷ edges) d (omega arith))

precedes_trans : (e f g : ℕ × ℕ) → Precedes e f → Precedes f g → Precedes e g
precedes_trans e f g first second = chain e.0 e.1 f.0 f.1 g.0 g.1 first second where
  chain : (a b c d u v : ℕ) → (a < c) ⊎ ((a ≡ c) × (b < d)) → (c < u) ⊎ ((c ≡ u) × (d < v)) → (a < u) ⊎ ((a ≡ u) × (b < v))
  chain a b c d u v (inl h) (inl k) = inl (omega arith)
  chain a b c d u v (inl h) (inr k) = inl (omega (arith, k.0))
  chain a b c d u v (inr h) (inl k) = inl (omega (arith, h.0))
  chain a b c d u v (inr h) (inr k) = inr (h.0 ∙ k.0, omega (arith, h.1, k.1))

abbrev FitsBehind : ℕ → List (ℕ × ℕ) → ℕ × ℕ → Type 0
FitsBehind nodes front edge = EdgeFits nodes (last_edge front) edge

before_next : (front : List (ℕ × ℕ)) (edge : ℕ × ℕ) → AllPairs Precedes front → Precedes (last_edge front) edge → (k : ℕ) (d : ℕ × ℕ) → k < length front → Precedes (get_or front k d) edge
before_next front edge pairs next k d below = elim (cases_lt k (length front - 1)) [
  | inl low ↦ precedes_trans (get_or front k d) (last_edge front) edge (subst (λ (e : ℕ × ℕ). Precedes (get_or front k d) e) (last_is front d (omega arith)) (pairs k (length front - 1) d low (omega arith))) next
  | inr high ↦ let same : length front - 1 ≡ k = omega arith in subst (λ (e : ℕ × ℕ). Precedes e edge) (sym (subst (λ (j : ℕ). get_or front j d ≡ last_edge front) same (last_is front d (omega arith)))) next
]

rising_after : (nodes : ℕ) (front edges : List (ℕ × ℕ)) → AllPairs Precedes front → AllAfter (FitsBehind nodes) front edges → AllPairs Precedes (front ++ edges)
rising_after nodes front [] pairs fit = rw append-nil pairs
rising_after nodes front (edge ∷ edges) pairs fit =
    let pushed = all_pairs_push Precedes front edge pairs (before_next front edge pairs fit.0.after) in
    subst (λ (xs : List (ℕ × ℕ)). AllPairs Precedes xs) (append_assoc front (edge ∷ []) edges) (rising_after nodes (front ++ edge ∷ []) edges pushed fit.1)

-- an edge leads up, between the nodes
abbrev LeadsUp : ℕ → ℕ × ℕ → Type 0
LeadsUp nodes edge = (edge.0 < edge.1) × (edge.1 < nodes)

first_edge : (edge : ℕ × ℕ) → edge.0 < edge.1 → Precedes (0, 0) edge
first_edge edge up = after edge.0 edge.1 up where
  after : (a b : ℕ) → a < b → (0 < a) ⊎ ((0 ≡ a) × (0 < b))
  after zero b h = inr (refl, omega arith)
  after (suc a) b h = inl (omega arith)

after_last : (front : List (ℕ × ℕ)) (edge : ℕ × ℕ) (edges : List (ℕ × ℕ)) → edge.0 < edge.1 → AllPairs Precedes (front ++ edge ∷ edges) → Precedes (last_edge front) edge
after_last [] edge edges up pairs = first_edge edge up
after_last (e ∷ front) edge edges up pairs =
    let whole = e ∷ front in
    let there = pairs (length front) (length whole) (0, 0) (omega arith) (omega (arith, length-append whole (edge ∷ edges))) in
    let same : length whole - 1 ≡ length front = omega arith in
    let at : get_or whole (length front) (0, 0) ≡ last_edge whole = subst (λ (k : ℕ). get_or whole k (0, 0) ≡ last_edge whole) same (last_is whole (0, 0) (omega arith)) in
    let last : get_or (whole ++ edge ∷ edges) (length front) (0, 0) ≡ last_edge whole = get_or-append whole (edge ∷ edges) (0, 0) (length front) (omega arith) ∙ at in
    subst (λ (f : ℕ × ℕ). Precedes (last_edge whole) f) (get_or-append_seam whole edge edges (0, 0)) (subst (λ (f : ℕ × ℕ). Precedes f (get_or (whole ++ edge ∷ edges) (length whole) (0, 0))) last there)

edges_fit : (nodes : ℕ) (front edges : List (ℕ × ℕ)) → All (LeadsUp nodes) edges → AllPairs Precedes (front ++ edges) → AllAfter (FitsBehind nodes) front edges
edges_fit nodes front [] each pairs = tt
edges_fit nodes front (edge ∷ edges) each pairs =
    let here = All-head (LeadsUp nodes) edge edges each in
    let regrouped = subst (λ (xs : List (ℕ × ℕ)). AllPairs Precedes xs) (sym (append_assoc front (edge ∷ []) edges)) pairs in
    (record { up = here.0; inside = here.1; after = after_last front edge edges here.0 pairs }, edges_fit nodes (front ++ edge ∷ []) edges (All-tail (LeadsUp nodes) edge edges each) regrouped)

abbrev edges_keep : ℕ → Bool
edges_keep n = nat_le n max_edges

abbrev with_edges : ℕ → ℕ → ℕ × List ℕ → Result (List (ℕ × ℕ) × List ℕ) FileFault
with_edges total nodes count = many (λ front. edge_at total nodes (last_edge front)) count.0 [] count.1

abbrev read_edge : ℕ → ℕ → List (ℕ × ℕ) → List ℕ → Result ((ℕ × ℕ) × List ℕ) FileFault
read_edge total nodes front = edge_at total nodes (last_edge front)

-- edges as a road has them
pub record AreEdges (nodes : ℕ) (edges : List (ℕ × ℕ)) : Type 0 where
  pub few : length edges ≤ max_edges
  pub up : All (LeadsUp nodes) edges
  pub increasing : AllPairs Precedes edges

edges_mean : (n : ℕ) → nat_le n max_edges ≡ true → n ≤ max_edges
edges_mean n h = grind (arith, nat_tests)

edges_are : (n : ℕ) → n ≤ max_edges → nat_le n max_edges ≡ true
edges_are n h = grind (arith, nat_tests)

no_edges : AllPairs Precedes []
no_edges = λ i j d before below. absurd (omega arith)

edges_take : (total nodes : ℕ) (s : List ℕ) (edges : List (ℕ × ℕ)) (more : List ℕ) → IsBytes s → edges_at total nodes s ≡ Ok (edges, more) → Takes s (edges_text edges) more × AreEdges nodes edges
unfolding edges_at
edges_take total nodes s edges more fits e =
    let count = bind_ok (number_field w32 total edges_keep s) (with_edges total nodes) (edges, more) e in
    let t0 = number_takes w32 (2 ^ 32) wide32 total edges_keep s count.0.0 count.0.1 fits count.1 in
    let t1 = all_takes (read_edge total nodes) edge_text (FitsBehind nodes) (λ front s edge more fits e. edge_takes total nodes (last_edge front) s edge more fits e) count.0.0 edges count.0.1 more t0.0.rest_fits count.2 in
    let joined = takes_then s (to_be_bytes w32 count.0.0) count.0.1 (flat_map edge_text edges) more t0.0 t1.taken in
    let few = edges_mean count.0.0 t0.2 in (
      subst (λ (n : ℕ). Takes s (to_be_bytes w32 n ++ flat_map edge_text edges) more) (sym t1.counted) joined,
      record {
        few = omega (arith, t1.counted);
        up = after_all (FitsBehind nodes) (LeadsUp nodes) (λ front edge fit. (fit.up, fit.inside)) [] edges t1.fit;
        increasing = rising_after nodes [] edges no_edges t1.fit;
      },
    )

small32 : (n : ℕ) → n ≤ max_edges → n < 2 ^ 32
small32 n h = omega arith

edges_again : (total nodes : ℕ) (edges : List (ℕ × ℕ)) (more : List ℕ) → nodes ≤ max_nodes → AreEdges nodes edges → edges_at total nodes (edges_text edges ++ more) ≡ Ok (edges, more)
unfolding edges_at
edges_again total nodes edges more few are =
    let behind = flat_map edge_text edges ++ more in
    ap (edges_at total nodes) (append_assoc (to_be_bytes w32 (length edges)) (flat_map edge_text edges) more)
    ∙ on_ok (number_field w32 total edges_keep (to_be_bytes w32 (length edges) ++ behind)) (with_edges total nodes) (length edges, behind) (Ok (edges, more)) (number_again w32 (2 ^ 32) wide32 total edges_keep (length edges) behind (small32 (length edges) are.few) (edges_are (length edges) are.few))
    (many_again (read_edge total nodes) edge_text (FitsBehind nodes) (λ front edge more fit. edge_again total nodes (last_edge front) edge more few fit) [] edges more (edges_fit nodes [] edges are.up are.increasing))

-- ---- the road

abbrev with_all_edges : List (List ℤ) → List (ℕ × ℕ) × List ℕ → Result (Road × List ℕ) FileFault
with_all_edges nodes edges = Ok (record { nodes = nodes; edges = edges.0 }, edges.1)

abbrev with_all_nodes : ℕ → List (List ℤ) × List ℕ → Result (Road × List ℕ) FileFault
with_all_nodes total nodes = edges_at total (length nodes.0) nodes.1 >>= with_all_edges nodes.0

-- the road is one, and its nodes are configurations
pub record IsRoadOf (links : List Link) (road : Road) : Type 0 where
  pub is_road : IsRoad road
  pub configs : All (IsConfig links) road.nodes

road_of : (links : List Link) (nodes : List (List ℤ)) (edges : List (ℕ × ℕ)) → AreNodes links nodes → AreEdges (length nodes) edges → IsRoadOf links (record { nodes = nodes; edges = edges })
road_of links nodes edges n e = record {
  is_road = record {
    some = n.some;
    few = n.few;
    alike = record { joints = λ i j below_i below_j. sym (n.configs i [] below_i).counted ∙ (n.configs j [] below_j).counted; distinct = n.distinct };
    few_edges = e.few;
    ends = λ i a b at. subst (LeadsUp (length nodes)) (get_or_from_slice_get edges i (a, b) (a, b) at) (e.up i (a, b) (slice_get_within edges i (a, b) at));
    increasing = e.increasing;
  };
  configs = n.configs;
}

pub road_takes : (total : ℕ) (links : List Link) (s : List ℕ) (road : Road) (more : List ℕ) → IsBytes s → road_at total links s ≡ Ok (road, more) → Takes s (road_text road) more × IsRoadOf links road
unfolding road_at
road_takes total links s road more fits e =
    let nodes = bind_ok (nodes_at total links s) (with_all_nodes total) (road, more) e in
    let edges = bind_ok (edges_at total (length nodes.0.0) nodes.0.1) (with_all_edges nodes.0.0) (road, more) nodes.2 in
    let t0 = nodes_take total links s nodes.0.0 nodes.0.1 fits nodes.1 in
    let t1 = edges_take total (length nodes.0.0) nodes.0.1 edges.0.0 edges.0.1 t0.0.rest_fits edges.1 in
    let made : Road = record { nodes = nodes.0.0; edges = edges.0.0 } in
    subst (λ (y : Road × List ℕ). Takes s (road_text y.0) y.1 × IsRoadOf links y.0) (ok_is (made, edges.0.1) (road, more) edges.2)
    (takes_then s (nodes_text nodes.0.0) nodes.0.1 (edges_text edges.0.0) edges.0.1 t0.0 t1.0, road_of links nodes.0.0 edges.0.0 t0.1 t1.1)

edges_of : (road : Road) → IsRoad road → AreEdges (length road.nodes) road.edges
edges_of road is = record {
  few = is.few_edges;
  up = λ k d below. is.ends k (get_or road.edges k d).0 (get_or road.edges k d).1 (slice_get-get_or road.edges k d below);
  increasing = is.increasing;
}

pub road_again : (total : ℕ) (links : List Link) (road : Road) (more : List ℕ) → All (λ link. IsTrue (has_limits link)) links → IsRoadOf links road → road_at total links (road_text road ++ more) ≡ Ok (road, more)
unfolding road_at
road_again total links road more limits is =
    let nodes : AreNodes links road.nodes = record { some = is.is_road.some; few = is.is_road.few; configs = is.configs; distinct = is.is_road.alike.distinct } in
    let behind = edges_text road.edges ++ more in
    ap (road_at total links) (append_assoc (nodes_text road.nodes) (edges_text road.edges) more)
    ∙ on_ok (nodes_at total links (nodes_text road.nodes ++ behind)) (with_all_nodes total) (road.nodes, behind) (Ok (road, more)) (nodes_again total links road.nodes behind limits nodes)
    (on_ok (edges_at total (length road.nodes) behind) (with_all_edges road.nodes) (road.edges, more) (Ok (road, more)) (edges_again total (length road.nodes) road.edges more is.is_road.few (edges_of road is.is_road)) refl)
