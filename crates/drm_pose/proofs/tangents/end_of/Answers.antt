use Rattle.std.proofs.Common.{FitsSigned, w64, ◌+ℤ◌, ◌*ℤ◌, to_z-of_z}
use Rattle.drm_pose.proofs.TangentLemmas.{end_fits}
use Rattle.drm_pose.proofs.tangents.end_of.Goals as goal

pub overflow_add-result : goal.overflow_add-result
overflow_add-result c =
    let fit = end_fits c.requires.start_in c.requires.rise_in c.requires.pieces_in c.requires.place_in c.requires.scale_in in
    let fits_start : FitsSigned w64 c.args.start = fit.start in
    let fits_rise : FitsSigned w64 c.args.rise = fit.rise in
    let fits_pieces : FitsSigned w64 c.args.pieces = fit.pieces in
    let fits_place : FitsSigned w64 c.args.place = fit.place in
    let fits_first : FitsSigned w64 (c.args.start *ℤ c.args.pieces) = fit.first in
    let fits_second : FitsSigned w64 (c.args.rise *ℤ c.args.place) = fit.second in
    simp to_z-of_z fit.sum

pub overflow_mul-result-3 : goal.overflow_mul-result-3
overflow_mul-result-3 c =
    let fit = end_fits c.requires.start_in c.requires.rise_in c.requires.pieces_in c.requires.place_in c.requires.scale_in in
    let fits_start : FitsSigned w64 c.args.start = fit.start in
    let fits_rise : FitsSigned w64 c.args.rise = fit.rise in
    let fits_pieces : FitsSigned w64 c.args.pieces = fit.pieces in
    let fits_place : FitsSigned w64 c.args.place = fit.place in
    let fits_scale : FitsSigned w64 c.args.scale = fit.scale in
    let fits_first : FitsSigned w64 (c.args.start *ℤ c.args.pieces) = fit.first in
    let fits_second : FitsSigned w64 (c.args.rise *ℤ c.args.place) = fit.second in
    let fits_sum : FitsSigned w64 ((c.args.start *ℤ c.args.pieces) +ℤ (c.args.rise *ℤ c.args.place)) = fit.sum in
    simp to_z-of_z fit.whole

pub returns : goal.returns
returns c =
    let fit = end_fits c.requires.start_in c.requires.rise_in c.requires.pieces_in c.requires.place_in c.requires.scale_in in
    let fits_start : FitsSigned w64 c.args.start = fit.start in
    let fits_rise : FitsSigned w64 c.args.rise = fit.rise in
    let fits_pieces : FitsSigned w64 c.args.pieces = fit.pieces in
    let fits_place : FitsSigned w64 c.args.place = fit.place in
    let fits_scale : FitsSigned w64 c.args.scale = fit.scale in
    let fits_first : FitsSigned w64 (c.args.start *ℤ c.args.pieces) = fit.first in
    let fits_second : FitsSigned w64 (c.args.rise *ℤ c.args.place) = fit.second in
    let fits_sum : FitsSigned w64 ((c.args.start *ℤ c.args.pieces) +ℤ (c.args.rise *ℤ c.args.place)) = fit.sum in
    let fits_whole : FitsSigned w64 (((c.args.start *ℤ c.args.pieces) +ℤ (c.args.rise *ℤ c.args.place)) *ℤ c.args.scale) = fit.whole in
    simp to_z-of_z
