-- The verdict is that of the map that the name stands for.
use Rattle.std.proofs.Common.{inl, inr, rules}
use Rattle.drm_tool.specs.Named.{MapCallsFor}
use Rattle.drm_tool.specs.Check.{Passes, PassesMap, TellsVerdict, CheckCallsFor}
use Rattle.drm_tool.proofs.OutcomeLemmas.{done_maps, stop_maps, stops_map}
use Rattle.drm_tool.proofs.commands.check.check_map.Goals as goal

pub returns-clause-done : goal.returns-clause-done
returns-clause-done g c =
    done_maps (Passes c.in_ok-map.map) (PassesMap _ _) c.judge.result
    (λ text is. record { map = c.in_ok-map.map; named = c.in_ok-map.ensures.map; passed = is }) c.judge.ensures.done

pub returns-clause-stop : goal.returns-clause-stop
returns-clause-stop g c =
    stop_maps (TellsVerdict c.in_ok-map.map) (CheckCallsFor _ _) c.judge.result
    (λ refusal is. inr (record { map = c.in_ok-map.map; named = c.in_ok-map.ensures.map; found = is })) c.judge.ensures.stop

pub returns-in_err-map-clause-stop : goal.returns-in_err-map-clause-stop
returns-in_err-map-clause-stop g c =
    let stops = stops_map (MapCallsFor _ _) (CheckCallsFor (g.H.Shelf.held c.args.shelf.now) c.args.name.now) c.in_err-map.field-0.0 (λ refusal is. inl is) c.in_err-map.ensures.stop in
    search rules
