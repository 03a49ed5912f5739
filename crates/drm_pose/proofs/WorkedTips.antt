-- Three ends of a link of 1,000 units, computed from the definition of a chain: they are whole.
use Rattle.std.proofs.Common.{◌≡◌, ℤ, pos, neg_ℤ, ◌*ℤ◌, [], ◌∷◌, refl}
use Rattle.drm_pose.specs.Chain.{chain_of}

-- the end of the link at the joint coordinate n is (x, y)
record EndsAt (n x y : ℤ) : Type 0 where
  pub across : (chain_of (pos 1024) ((record { len = pos 1000; n = n }) ∷ [])).px ≡ x *ℤ (chain_of (pos 1024) ((record { len = pos 1000; n = n }) ∷ [])).d
  pub up : (chain_of (pos 1024) ((record { len = pos 1000; n = n }) ∷ [])).py ≡ y *ℤ (chain_of (pos 1024) ((record { len = pos 1000; n = n }) ∷ [])).d

half_turned : EndsAt (pos 512) (pos 600) (pos 800)
half_turned = record { across = refl; up = refl }

quarter_turned : EndsAt (pos 1024) (pos 0) (pos 1000)
quarter_turned = record { across = refl; up = refl }

turned_back : EndsAt (neg_ℤ (pos 2048)) (neg_ℤ (pos 600)) (neg_ℤ (pos 800))
turned_back = record { across = refl; up = refl }
