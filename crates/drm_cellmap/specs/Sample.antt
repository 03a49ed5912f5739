-- The sample map: an arm of one link of length 200 and radius 20 on a grid of 4 by 4 cells of side 128.
use Rattle.std.specs.Prelude.{pos, neg_ℤ, [], ◌∷◌}
use Rattle.drm_arm.specs.declared.arm.Link.{Link}
use Rattle.drm_road.specs.Road.{Road}
use Rattle.drm_cellmap.specs.Roadmap.{Roadmap}

-- its one link
abbrev pub sample_link : Link
sample_link = record { len = 200; radius = 20; lo = neg_ℤ (pos 2048); hi = pos 2048 }

-- its four nodes, each with the coordinate of the one joint, and its three edges
abbrev pub sample_road : Road
sample_road = record {
  nodes = (pos 0 ∷ []) ∷ (pos 1024 ∷ []) ∷ (neg_ℤ (pos 1024) ∷ []) ∷ (pos 2048 ∷ []) ∷ [];
  edges = (0, 1) ∷ (0, 2) ∷ (1, 3) ∷ [];
}

-- the arm, the grid, the road, and the stored sweeps of the nodes and of the edges
abbrev pub sample : Roadmap
sample = record {
  arm = sample_link ∷ [];
  grid = record { side = 128; n = 4 };
  road = sample_road;
  sweeps =
      (5 ∷ 6 ∷ 7 ∷ 9 ∷ 10 ∷ 11 ∷ [])
      ∷ (5 ∷ 6 ∷ 9 ∷ 10 ∷ 13 ∷ 14 ∷ [])
      ∷ (1 ∷ 2 ∷ 5 ∷ 6 ∷ 9 ∷ 10 ∷ [])
      ∷ (5 ∷ 6 ∷ 8 ∷ 9 ∷ 10 ∷ 12 ∷ 13 ∷ [])
      ∷ (5 ∷ 6 ∷ 7 ∷ 9 ∷ 10 ∷ 11 ∷ 13 ∷ 14 ∷ 15 ∷ [])
      ∷ (1 ∷ 2 ∷ 3 ∷ 5 ∷ 6 ∷ 7 ∷ 9 ∷ 10 ∷ 11 ∷ [])
      ∷ (5 ∷ 6 ∷ 8 ∷ 9 ∷ 10 ∷ 12 ∷ 13 ∷ 14 ∷ [])
      ∷ [];
}
