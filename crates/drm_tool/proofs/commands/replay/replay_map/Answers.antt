-- The replay is one over the map that the name stands for.
use Rattle.std.proofs.Common.{inl, inr, length, rules}
use Rattle.drm_tool.specs.Named.{MapCallsFor}
use Rattle.drm_tool.specs.Headline.{Replays, ReplaysOver, LogCallsFor, ReplayCallsFor}
use Rattle.drm_tool.proofs.OutcomeLemmas.{done_maps, stop_maps, stops_map, keeps_same, took_none}
use Rattle.drm_tool.proofs.commands.replay.replay_map.Goals as goal

pub returns-clause-done : goal.returns-clause-done
returns-clause-done g c =
    done_maps (ReplaysOver c.in_ok-map.map c.args.words.now.form _ _) (Replays _ _ c.args.words.now.form _ _) c.replay_log.result
    (λ text is. record { map = c.in_ok-map.map; named = c.in_ok-map.ensures.map; replayed = is }) c.replay_log.ensures.done

pub returns-clause-stop : goal.returns-clause-stop
returns-clause-stop g c =
    stop_maps (LogCallsFor (length c.in_ok-map.map.arm) _ _) (ReplayCallsFor _ _ _ _) c.replay_log.result
    (λ refusal is. inr (record { map = c.in_ok-map.map; named = c.in_ok-map.ensures.map; calls = is })) c.replay_log.ensures.stop

pub returns-clause-at_source : goal.returns-clause-at_source
returns-clause-at_source g c is = ((c.in_ok-map.map, c.in_ok-map.ensures.map), c.replay_log.ensures.at_source is)

pub returns-in_err-map-clause-stop : goal.returns-in_err-map-clause-stop
returns-in_err-map-clause-stop g c =
    let stops = stops_map (MapCallsFor _ _) (ReplayCallsFor (g.H.Shelf.held c.args.shelf.now) c.args.words.now.map.now (g.S.Source.left c.args.log.now) (g.S.Source.left c.args.log.now)) c.in_err-map.field-0.0 (λ refusal is. inl (is, keeps_same _)) c.in_err-map.ensures.stop in
    search rules

pub returns-in_err-map-clause-at_load : goal.returns-in_err-map-clause-at_load
returns-in_err-map-clause-at_load g c is = (c.in_err-map.ensures.looked_up (search rules), keeps_same _)

pub returns-in_err-map-clause-at_memory : goal.returns-in_err-map-clause-at_memory
returns-in_err-map-clause-at_memory g c is = took_none _ _ _ (keeps_same _)
