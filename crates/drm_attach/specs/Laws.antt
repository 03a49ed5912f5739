-- What the definitions of attachments prove.
use Rattle.std.specs.Prelude.{◌≡◌, ℤ, List}
use Rattle.drm_cellmap.specs.Roadmap.{Roadmap}
use Rattle.drm_cellmap.specs.Snapshot.{Snapshot}
use Rattle.drm_attach.specs.declared.ends.Way.{Way}
use Rattle.drm_attach.specs.declared.ends.Attached.{Attached}
use Rattle.drm_attach.specs.Attached.{IsAttached}

-- how a configuration is joined to the roadmap is determined: by which node, and why those before it were refused
abbrev pub AttachmentsAreDetermined : Type 0
AttachmentsAreDetermined =
    (chart : Roadmap) (snap : Snapshot) (at : List ℤ) (way : Way) (attached other : Attached)
    → IsAttached chart snap at way attached → IsAttached chart snap at way other → attached ≡ other
