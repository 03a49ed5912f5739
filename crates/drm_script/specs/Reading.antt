-- The request that the words of a line spell.
use Rattle.std.specs.Prelude.{ℕ, ℤ, ◌%◌, ◌==◌, ◌&&◌, nat_lt, Bool, if◌then◌else◌, List, [], length, drop, Result, Ok, Err, codes}
use Rattle.drm_shape.specs.declared.Shape.{Shape}
use Rattle.drm_shape.specs.declared.Shape.TheVariants.{Rect, Disc, Poly}
use Rattle.drm_talk.specs.declared.Element.{Element}
use Rattle.drm_talk.specs.declared.Element.TheVariants.{Node, Edge}
use Rattle.drm_talk.specs.declared.Act.{Act}
use Rattle.drm_talk.specs.declared.Act.TheVariants.{Put, Del, Count, Ask, Sync, Tick}
use Rattle.drm_talk.specs.declared.Line.{Line}
use Rattle.drm_script.specs.declared.words.WordFault.{WordFault}
use Rattle.drm_script.specs.declared.words.WordFault.TheVariants.{Bad}
use Rattle.drm_script.specs.Reader.{◌>>=◌, starts, ended, unsigned_at, signed_at, Reads, slot_at, number_at, pair_at, made_at, many_at, last_of, all_of, then_of}
use Rattle.drm_script.specs.Limits.{caller_limit, ring_limit}

-- so many coordinates are those of a ring
abbrev pub is_ring : List ℤ → Bool
is_ring xy = nat_lt 5 (length xy) && (nat_lt (length xy) 17 && (length xy % 2 == 0))

-- a ring up to the end of its line
unfoldable pub ring_of : List (List ℕ) → Result (List ℤ) WordFault
ring_of ws = do
  xy ← all_of signed_at ring_limit [] ws
  if is_ring xy then Ok xy else Err Bad

-- a shape up to the end of its line, valid or not
unfoldable pub shape_of : List (List ℕ) → Result Shape WordFault
shape_of ws =
    if starts (codes "box") ws then
    last_of (pair_at signed_at (pair_at signed_at (pair_at signed_at signed_at))) (λ x. Rect x.0 x.1.0 x.1.1.0 x.1.1.1) (drop 1 ws) else
    if starts (codes "disc") ws then last_of (pair_at signed_at (pair_at signed_at number_at)) (λ x. Disc x.0 x.1.0 x.1.1) (drop 1 ws) else
    if starts (codes "poly") ws then (do
      ring ← ring_of (drop 1 ws)
      Ok (Poly ring)) else
    Err Bad

-- an element
unfoldable pub element_at : Reads Element
element_at ws =
    if starts (codes "node") ws then made_at number_at Node (drop 1 ws) else
    if starts (codes "edge") ws then made_at number_at Edge (drop 1 ws) else
    Err Bad

-- a configuration: so many coordinates
unfoldable pub joints_at : ℕ → Reads (List ℤ)
joints_at joints ws = many_at signed_at joints [] ws

-- a request up to the end of its line
unfoldable pub act_of : ℕ → List (List ℕ) → Result Act WordFault
act_of joints ws =
    if starts (codes "put") ws then then_of slot_at shape_of Put (drop 1 ws) else
    if starts (codes "del") ws then last_of slot_at Del (drop 1 ws) else
    if starts (codes "count") ws then last_of element_at Count (drop 1 ws) else
    if starts (codes "ask") ws then last_of (pair_at (joints_at joints) (joints_at joints)) (λ x. Ask x.0 x.1) (drop 1 ws) else
    if starts (codes "sync") ws then ended (Sync, drop 1 ws) else
    if starts (codes "tick") ws then ended (Tick, drop 1 ws) else
    Err Bad

-- a line of a log, its shape valid or not
unfoldable pub line_in : ℕ → List (List ℕ) → Result Line WordFault
line_in joints ws = then_of (unsigned_at caller_limit) (act_of joints) (λ caller act. record { caller = caller; act = act }) ws
