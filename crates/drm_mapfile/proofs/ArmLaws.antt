-- The arm: what is read is an arm and spelled so, and what was spelled is read again.
use Rattle.std.proofs.Common.{◌≡◌, ℕ, ◌+◌, ◌^◌, ◌<◌, ◌≤◌, ℤ, Bool, true, ◌&&◌, nat_le, int_le, List, [], ◌∷◌, ◌++◌, length, Result, Ok, refl, sym, ap, subst, ◌∙◌, append_assoc, arith}
use Rattle.std.specs.Prelude.{sum_by, IsTrue, flat_map}
use Rattle.std.specs.Int.{w16}
use Rattle.std.specs.Int.RustNames.{FitsSigned}
use Rattle.std.proofs.lemmas.Int.{ints}
use Rattle.std.proofs.lemmas.Bool.Decides.{nat_tests}
use Rattle.drm_arm.specs.declared.arm.Link.{Link}
use Rattle.drm_arm.specs.Arm.{IsArm, reach_of, has_length, has_radius, has_limits}
use Rattle.drm_arm.specs.Limits.{max_links, max_length, max_radius, max_reach, min_coordinate, max_coordinate}
use Rattle.drm_mapfile.specs.declared.fault.FileFault.{FileFault}
use Rattle.drm_mapfile.specs.Fields.{◌>>=◌, byte_field, number_field, signed_field, many}
use Rattle.drm_mapfile.specs.Text.{number, signed, link_text, arm_text}
use Rattle.drm_mapfile.specs.Reading.{limits_at, link_at, arm_at}
use Rattle.drm_mapfile.proofs.FieldLaws.{IsBytes, Takes, takes_then, bind_ok, ok_is, on_ok, both, together, regroup3, wide16, byte_takes, byte_again, number_takes, number_again, signed_takes, signed_again}
use Rattle.drm_mapfile.proofs.ManyLaws.{TakesAll, all_takes, many_again, after_all, sum_after, sums_fit}

-- ---- the limits of a joint

abbrev lo_keeps : ℤ → Bool
lo_keeps z = int_le min_coordinate z && int_le z max_coordinate

abbrev hi_keeps : ℤ → ℤ → Bool
hi_keeps lo z = int_le lo z && int_le z max_coordinate

abbrev with_hi : ℤ → ℤ × List ℕ → Result ((ℤ × ℤ) × List ℕ) FileFault
with_hi lo hi = Ok ((lo, hi.0), hi.1)

abbrev with_lo : ℕ → ℤ × List ℕ → Result ((ℤ × ℤ) × List ℕ) FileFault
with_lo total lo = signed_field total (hi_keeps lo.0) lo.1 >>= with_hi lo.0

abbrev are_limits : ℤ × ℤ → Bool
are_limits p = int_le min_coordinate p.0 && int_le p.1 max_coordinate && int_le p.0 p.1

limits_join : (lo hi : ℤ) → lo_keeps lo ≡ true → hi_keeps lo hi ≡ true → are_limits (lo, hi) ≡ true
limits_join lo hi hl hh =
    let l = both (int_le min_coordinate lo) (int_le lo max_coordinate) hl in
    let h = both (int_le lo hi) (int_le hi max_coordinate) hh in
    together (int_le min_coordinate lo && int_le hi max_coordinate) (int_le lo hi) (together (int_le min_coordinate lo) (int_le hi max_coordinate) l.0 h.1) h.0

below_greatest : (lo hi : ℤ) → int_le lo hi ≡ true → int_le hi max_coordinate ≡ true → int_le lo max_coordinate ≡ true
below_greatest lo hi h k = grind (arith, ints)

limits_part : (lo hi : ℤ) → are_limits (lo, hi) ≡ true → (lo_keeps lo ≡ true) × (hi_keeps lo hi ≡ true)
limits_part lo hi h =
    let p = both (int_le min_coordinate lo && int_le hi max_coordinate) (int_le lo hi) h in
    let q = both (int_le min_coordinate lo) (int_le hi max_coordinate) p.0 in
    (together (int_le min_coordinate lo) (int_le lo max_coordinate) q.0 (below_greatest lo hi p.1 q.1), together (int_le lo hi) (int_le hi max_coordinate) p.1 q.1)

pub fits_between : (lo hi z : ℤ) → are_limits (lo, hi) ≡ true → (int_le lo z && int_le z hi) ≡ true → FitsSigned w16 z
fits_between lo hi z h k = small z (grind (arith, ints)) (grind (arith, ints)) where
  small : (v : ℤ) → int_le min_coordinate v ≡ true → int_le v max_coordinate ≡ true → FitsSigned w16 v
  small v a b = record { sfits = grind (arith, ints) }

fits_small : (v : ℤ) → int_le min_coordinate v ≡ true → int_le v max_coordinate ≡ true → FitsSigned w16 v
fits_small v a b = record { sfits = grind (arith, ints) }

limits_takes : (total : ℕ) (s : List ℕ) (p : ℤ × ℤ) (more : List ℕ) → IsBytes s → limits_at total s ≡ Ok (p, more) → Takes s (signed p.0 ++ signed p.1) more × (are_limits p ≡ true)
unfolding limits_at
limits_takes total s p more fits e =
    let lo = bind_ok (signed_field total lo_keeps s) (with_lo total) (p, more) e in
    let hi = bind_ok (signed_field total (hi_keeps lo.0.0) lo.0.1) (with_hi lo.0.0) (p, more) lo.2 in
    let t0 = signed_takes total lo_keeps s lo.0.0 lo.0.1 fits lo.1 in
    let t1 = signed_takes total (hi_keeps lo.0.0) lo.0.1 hi.0.0 hi.0.1 t0.0.rest_fits hi.1 in
    subst (λ (y : (ℤ × ℤ) × List ℕ). Takes s (signed y.0.0 ++ signed y.0.1) y.1 × (are_limits y.0 ≡ true)) (ok_is ((lo.0.0, hi.0.0), hi.0.1) (p, more) hi.2)
    (takes_then s (signed lo.0.0) lo.0.1 (signed hi.0.0) hi.0.1 t0.0 t1.0, limits_join lo.0.0 hi.0.0 t0.1 t1.1)

limits_again : (total : ℕ) (lo hi : ℤ) (more : List ℕ) → are_limits (lo, hi) ≡ true → limits_at total ((signed lo ++ signed hi) ++ more) ≡ Ok ((lo, hi), more)
unfolding limits_at
limits_again total lo hi more h =
    let p = limits_part lo hi h in
    let l = both (int_le min_coordinate lo) (int_le lo max_coordinate) p.0 in
    let fits_lo = fits_small lo l.0 l.1 in
    let fits_hi : FitsSigned w16 hi = fits_between lo hi hi h (together (int_le lo hi) (int_le hi hi) (both (int_le lo hi) (int_le hi max_coordinate) p.1).0 (itself hi)) in
    ap (limits_at total) (append_assoc (signed lo) (signed hi) more)
    ∙ on_ok (signed_field total lo_keeps (signed lo ++ (signed hi ++ more))) (with_lo total) (lo, signed hi ++ more) (Ok ((lo, hi), more)) (signed_again total lo_keeps lo (signed hi ++ more) fits_lo p.0)
    (on_ok (signed_field total (hi_keeps lo) (signed hi ++ more)) (with_hi lo) (hi, more) (Ok ((lo, hi), more)) (signed_again total (hi_keeps lo) hi more fits_hi p.1) refl)
  where
    itself : (z : ℤ) → int_le z z ≡ true
    itself z = grind (arith, ints)

-- ---- a link

abbrev len_keeps : ℕ → ℕ → Bool
len_keeps so_far n = nat_le 1 n && nat_le n max_length && nat_le (so_far + n) max_reach

abbrev radius_keeps : ℕ → Bool
radius_keeps n = nat_le n max_radius

abbrev with_limits : ℕ → ℕ → (ℤ × ℤ) × List ℕ → Result (Link × List ℕ) FileFault
with_limits len radius limits = Ok (record { len = len; radius = radius; lo = limits.0.0; hi = limits.0.1 }, limits.1)

abbrev with_radius : ℕ → ℕ → ℕ × List ℕ → Result (Link × List ℕ) FileFault
with_radius total len radius = limits_at total radius.1 >>= with_limits len radius.0

abbrev with_len : ℕ → ℕ × List ℕ → Result (Link × List ℕ) FileFault
with_len total len = number_field w16 total radius_keeps len.1 >>= with_radius total len.0

-- a link is within its limits
abbrev pub IsGood : Link → Type 0
IsGood link = IsTrue (has_length link) × IsTrue (has_radius link) × IsTrue (has_limits link)

-- a link may stand behind others
abbrev pub LinkFits : List Link → Link → Type 0
LinkFits front link = IsGood link × (sum_by (λ link. link.len) front + link.len ≤ max_reach)

len_parts : (so_far n : ℕ) → len_keeps so_far n ≡ true → ((nat_le 1 n && nat_le n max_length) ≡ true) × (so_far + n ≤ max_reach)
len_parts so_far n h = let p = both (nat_le 1 n && nat_le n max_length) (nat_le (so_far + n) max_reach) h in (p.0, le (so_far + n) p.1) where
  le : (m : ℕ) → nat_le m max_reach ≡ true → m ≤ max_reach
  le m k = grind (arith, nat_tests)

len_is : (so_far n : ℕ) → (nat_le 1 n && nat_le n max_length) ≡ true → so_far + n ≤ max_reach → len_keeps so_far n ≡ true
len_is so_far n h bound = together (nat_le 1 n && nat_le n max_length) (nat_le (so_far + n) max_reach) h (le (so_far + n) bound) where
  le : (m : ℕ) → m ≤ max_reach → nat_le m max_reach ≡ true
  le m k = grind (arith, nat_tests)

len_small : (n : ℕ) → (nat_le 1 n && nat_le n max_length) ≡ true → n < 2 ^ 16
len_small n h = let p = both (nat_le 1 n) (nat_le n max_length) h in small n p.1 where
  small : (m : ℕ) → nat_le m max_length ≡ true → m < 2 ^ 16
  small m k = grind (arith, nat_tests)

radius_small : (n : ℕ) → nat_le n max_radius ≡ true → n < 2 ^ 16
radius_small n h = grind (arith, nat_tests)

link_takes : (total : ℕ) (front : List Link) (s : List ℕ) (link : Link) (more : List ℕ) → IsBytes s → link_at total (reach_of front) s ≡ Ok (link, more) → Takes s (link_text link) more × LinkFits front link
unfolding link_at
link_takes total front s link more fits e =
    let so_far = reach_of front in
    let len = bind_ok (number_field w16 total (len_keeps so_far) s) (with_len total) (link, more) e in
    let radius = bind_ok (number_field w16 total radius_keeps len.0.1) (with_radius total len.0.0) (link, more) len.2 in
    let limits = bind_ok (limits_at total radius.0.1) (with_limits len.0.0 radius.0.0) (link, more) radius.2 in
    let t0 = number_takes w16 (2 ^ 16) wide16 total (len_keeps so_far) s len.0.0 len.0.1 fits len.1 in
    let t1 = number_takes w16 (2 ^ 16) wide16 total radius_keeps len.0.1 radius.0.0 radius.0.1 t0.0.rest_fits radius.1 in
    let t2 = limits_takes total radius.0.1 limits.0.0 limits.0.1 t1.0.rest_fits limits.1 in
    let lims = limits.0.0 in
    let e12 = takes_then len.0.1 (number radius.0.0) radius.0.1 (signed lims.0 ++ signed lims.1) limits.0.1 t1.0 t2.0 in
    let e02 = takes_then s (number len.0.0) len.0.1 (number radius.0.0 ++ (signed lims.0 ++ signed lims.1)) limits.0.1 t0.0 e12 in
    let parts = len_parts so_far len.0.0 t0.2 in
    let made : Link × List ℕ = (record { len = len.0.0; radius = radius.0.0; lo = lims.0; hi = lims.1 }, limits.0.1) in
    subst (λ (y : Link × List ℕ). Takes s (link_text y.0) y.1 × LinkFits front y.0) (ok_is made (link, more) limits.2) (e02, ((parts.0, t1.2, t2.1), parts.1))

link_again : (total : ℕ) (front : List Link) (link : Link) (more : List ℕ) → LinkFits front link → link_at total (reach_of front) (link_text link ++ more) ≡ Ok (link, more)
unfolding link_at
link_again total front link more fit =
    let so_far = reach_of front in
    let limits = signed link.lo ++ signed link.hi in
    let behind_radius = limits ++ more in
    let behind_len = number link.radius ++ behind_radius in
    ap (link_at total so_far) (regroup3 (number link.len) (number link.radius) limits more)
    ∙ on_ok (number_field w16 total (len_keeps so_far) (number link.len ++ behind_len)) (with_len total) (link.len, behind_len) (Ok (link, more)) (number_again w16 (2 ^ 16) wide16 total (len_keeps so_far) link.len behind_len (len_small link.len fit.0.0) (len_is so_far link.len fit.0.0 fit.1))
    (on_ok (number_field w16 total radius_keeps behind_len) (with_radius total link.len) (link.radius, behind_radius) (Ok (link, more)) (number_again w16 (2 ^ 16) wide16 total radius_keeps link.radius behind_radius (radius_small link.radius fit.0.1) fit.0.1)
    (on_ok (limits_at total behind_radius) (with_limits link.len link.radius) ((link.lo, link.hi), more) (Ok (link, more)) (limits_again total link.lo link.hi more fit.0.2) refl))

-- ---- the arm

abbrev count_keeps : ℕ → Bool
count_keeps n = nat_le 1 n && nat_le n max_links

abbrev read_link : ℕ → List Link → List ℕ → Result (Link × List ℕ) FileFault
read_link total front = link_at total (reach_of front)

abbrev with_count : ℕ → ℕ × List ℕ → Result (List Link × List ℕ) FileFault
with_count total count = many (λ front. link_at total (reach_of front)) count.0 [] count.1

count_means : (n : ℕ) → count_keeps n ≡ true → (1 ≤ n) × (n ≤ max_links)
count_means n h = let p = both (nat_le 1 n) (nat_le n max_links) h in (some n p.0, few n p.1) where
  some : (m : ℕ) → nat_le 1 m ≡ true → 1 ≤ m
  some m k = grind (arith, nat_tests)

  few : (m : ℕ) → nat_le m max_links ≡ true → m ≤ max_links
  few m k = grind (arith, nat_tests)

count_is : (n : ℕ) → 1 ≤ n → n ≤ max_links → count_keeps n ≡ true
count_is n some few = together (nat_le 1 n) (nat_le n max_links) (a n some) (b n few) where
  a : (m : ℕ) → 1 ≤ m → nat_le 1 m ≡ true
  a m k = grind (arith, nat_tests)

  b : (m : ℕ) → m ≤ max_links → nat_le m max_links ≡ true
  b m k = grind (arith, nat_tests)

pub links_take : (total n : ℕ) (s : List ℕ) (links : List Link) (more : List ℕ) → IsBytes s → 1 ≤ n → n ≤ max_links → many (λ front. link_at total (reach_of front)) n [] s ≡ Ok (links, more) → TakesAll link_text LinkFits n links s more × IsArm links
links_take total n s links more fits some few e =
    let t = all_takes (read_link total) link_text LinkFits (λ front s link more fits e. link_takes total front s link more fits e) n links s more fits e in (
      t,
      record {
        some = omega (arith, t.counted);
        few = omega (arith, t.counted);
        lengths = after_all LinkFits (λ link. IsTrue (has_length link)) (λ front link fit. fit.0.0) [] links t.fit;
        radii = after_all LinkFits (λ link. IsTrue (has_radius link)) (λ front link fit. fit.0.1) [] links t.fit;
        limits = after_all LinkFits (λ link. IsTrue (has_limits link)) (λ front link fit. fit.0.2) [] links t.fit;
        reach = sum_after LinkFits (λ link. link.len) max_reach (λ front link fit. fit.1) [] links (omega arith) t.fit;
      },
    )

pub arm_takes : (total : ℕ) (s : List ℕ) (links : List Link) (more : List ℕ) → IsBytes s → arm_at total s ≡ Ok (links, more) → Takes s (arm_text links) more × IsArm links
unfolding arm_at
arm_takes total s links more fits e =
    let count = bind_ok (byte_field total count_keeps s) (with_count total) (links, more) e in
    let t0 = byte_takes total count_keeps s count.0.0 count.0.1 fits count.1 in
    let range = count_means count.0.0 t0.1 in
    let t1 = links_take total count.0.0 count.0.1 links more t0.0.rest_fits range.0 range.1 count.2 in
    let both_parts = takes_then s (count.0.0 ∷ []) count.0.1 (flat_map link_text links) more t0.0 t1.0.taken in
    (subst (λ (n : ℕ). Takes s (n ∷ flat_map link_text links) more) (sym t1.0.counted) both_parts, t1.1)

pub arm_again : (total : ℕ) (links : List Link) (more : List ℕ) → IsArm links → arm_at total (arm_text links ++ more) ≡ Ok (links, more)
unfolding arm_at
arm_again total links more arm =
    let fit = sums_fit LinkFits IsGood (λ link. link.len) max_reach (λ front link good bound. (good, bound)) [] links (λ k d below. (arm.lengths k d below, arm.radii k d below, arm.limits k d below)) arm.reach in
    on_ok (byte_field total count_keeps (length links ∷ (flat_map link_text links ++ more))) (with_count total) (length links, flat_map link_text links ++ more) (Ok (links, more)) (byte_again total count_keeps (length links) (flat_map link_text links ++ more) (count_is (length links) arm.some arm.few))
    (many_again (read_link total) link_text LinkFits (λ front link more fit. link_again total front link more fit) [] links more fit)
