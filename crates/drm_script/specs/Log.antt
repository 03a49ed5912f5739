-- The text of a log: one line for each request, each in its one spelling.
use Rattle.std.specs.Prelude.{ℕ, ℤ, ◌≡◌, ◌≢◌, ◌+◌, ◌<◌, ◌≤◌, Bool, true, false, Option, None, Some, List, [], ◌∷◌, ◌++◌, length, All, flat_map, count_by, codes, decimal}
use Rattle.std.specs.Fmt.{signed_decimal}
use Rattle.std.specs.Int.{w32}
use Rattle.std.specs.Int.RustNames.{FitsSigned}
use Rattle.drm_shape.specs.declared.Shape.{Shape}
use Rattle.drm_shape.specs.declared.Shape.TheVariants.{Rect, Disc, Poly}
use Rattle.drm_shape.specs.Validity.{IsValid}
use Rattle.drm_talk.specs.declared.Element.{Element}
use Rattle.drm_talk.specs.declared.Element.TheVariants.{Node, Edge}
use Rattle.drm_talk.specs.declared.Act.{Act}
use Rattle.drm_talk.specs.declared.Act.TheVariants.{Put, Del, Count, Ask, Sync, Tick}
use Rattle.drm_talk.specs.declared.Line.{Line}
use Rattle.drm_script.specs.Limits.{slot_limit, number_limit, caller_limit, line_limit, ask_limit}
use Rattle.drm_script.specs.Words.{line_of, lines_in}
use Rattle.drm_script.specs.declared.LinesFault.{LinesFault}
use Rattle.drm_script.specs.declared.LinesFault.TheVariants.{Lines as too_many_lines, Memory as no_memory_for_lines}
use Rattle.drm_script.specs.declared.LogFault.{LogFault}
use Rattle.drm_script.specs.declared.LogFault.TheVariants.{Lines as too_many, Line as bad_line, Memory as no_memory}

-- the words of a number, and of one with a sign
abbrev pub number_words : ℕ → List (List ℕ)
number_words n = decimal n ∷ []

abbrev pub signed_words : ℤ → List (List ℕ)
signed_words z = signed_decimal z ∷ []

-- the words of a shape: of a ring the coordinates x and y of each corner in turn
abbrev pub shape_words : Shape → List (List ℕ)
shape_words (Rect x0 y0 x1 y1) =
    codes "box" ∷ signed_decimal x0 ∷ signed_decimal y0 ∷ signed_decimal x1 ∷ signed_decimal y1 ∷ []
shape_words (Disc x y r) = codes "disc" ∷ signed_decimal x ∷ signed_decimal y ∷ decimal r ∷ []
shape_words (Poly ring) = codes "poly" ∷ flat_map signed_words ring

-- the words of an element
abbrev pub element_words : Element → List (List ℕ)
element_words (Node i) = codes "node" ∷ decimal i ∷ []
element_words (Edge i) = codes "edge" ∷ decimal i ∷ []

-- the words of a request
abbrev pub act_words : Act → List (List ℕ)
act_words (Put slot shape) = codes "put" ∷ decimal slot ∷ shape_words shape
act_words (Del slot) = codes "del" ∷ decimal slot ∷ []
act_words (Count element) = codes "count" ∷ element_words element
act_words (Ask start goal) = codes "ask" ∷ (flat_map signed_words start ++ flat_map signed_words goal)
act_words Sync = codes "sync" ∷ []
act_words Tick = codes "tick" ∷ []

-- the words of a log line
abbrev pub line_words : Line → List (List ℕ)
line_words line = decimal line.caller ∷ act_words line.act

-- the text of a log line
abbrev pub line_text : Line → List ℕ
line_text line = line_of (line_words line)

-- the number of an element is in range
abbrev pub IsElementInRange : Element → Type 0
IsElementInRange (Node i) = i < number_limit
IsElementInRange (Edge i) = i < number_limit

-- a configuration: one coordinate of 32 bits for each joint
abbrev pub AreJoints : ℕ → List ℤ → Type 0
AreJoints joints zs = (length zs ≡ joints) × All (FitsSigned w32) zs

-- the numbers of a request are in range, and its shape is valid; the arm has so many joints
abbrev pub IsActInRange : ℕ → Act → Type 0
IsActInRange joints (Put slot shape) = (slot < slot_limit) × IsValid shape
IsActInRange joints (Del slot) = slot < slot_limit
IsActInRange joints (Count element) = IsElementInRange element
IsActInRange joints (Ask start goal) = AreJoints joints start × AreJoints joints goal
IsActInRange joints Sync = Unit {0}
IsActInRange joints Tick = Unit {0}

-- the shape of a request, if it has one, is valid
abbrev pub HasValidShape : Act → Type 0
HasValidShape (Put slot shape) = IsValid shape
HasValidShape _ = Unit {0}

-- a line that a log may have
pub record IsLogLine (joints : ℕ) (line : Line) : Type 0 where
  pub caller : line.caller < caller_limit
  pub act : IsActInRange joints line.act

-- the request is an ask
abbrev pub is_ask : Act → Bool
is_ask (Ask start goal) = true
is_ask _ = false

-- how many of the lines are asks
abbrev pub asks_in : List Line → ℕ
asks_in lines = count_by (λ line. is_ask line.act) lines

-- the bytes are the text of these lines
pub record IsLog (joints : ℕ) (bytes : List ℕ) (lines : List Line) : Type 0 where
  pub text : bytes ≡ flat_map line_text lines
  pub in_grammar : All (IsLogLine joints) lines
  pub asks : asks_in lines ≤ ask_limit
  pub few : length lines ≤ line_limit

-- no line that may stand behind these lines stands at the front of these bytes
abbrev pub BeginsWithNoLine : ℕ → List Line → List ℕ → Type 0
BeginsWithNoLine joints lines bytes =
    (line : Line) (more : List ℕ) → IsLogLine joints line → asks_in (lines ++ line ∷ []) ≤ ask_limit → bytes ≡ line_text line ++ more → ⊥

-- the bytes begin with a log of these lines, and the rest stands behind it
pub record BeginsWithLog (joints : ℕ) (bytes : List ℕ) (lines : List Line) (rest : List ℕ) : Type 0 where
  pub front : List ℕ
  pub log : IsLog joints front lines
  pub text : bytes ≡ front ++ rest

-- line i, counted from 1, is the first that is not in the grammar, and these lines stand before it; so the bytes are no log
pub record IsBadAfter (joints : ℕ) (lines : List Line) (i : ℕ) (bytes : List ℕ) : Type 0 where
  pub rest : List ℕ
  pub before : BeginsWithLog joints bytes lines rest
  pub place : i ≡ length lines + 1
  pub some_left : rest ≢ []
  pub bad : BeginsWithNoLine joints lines rest
  pub few : lines_in bytes ≤ line_limit
  pub no_log : (others : List Line) → IsLog joints bytes others → ⊥

-- the same of line i, whatever the lines before it are
abbrev pub IsFirstBadLine : ℕ → ℕ → List ℕ → Type 0
IsFirstBadLine joints i bytes = (lines : List Line) × IsBadAfter joints lines i bytes

-- where no line is bad these are the lines of the log, and else those before the first bad one
abbrev pub AreGoodLines : ℕ → List ℕ → List Line → Option ℕ → Type 0
AreGoodLines joints bytes lines None = IsLog joints bytes lines
AreGoodLines joints bytes lines (Some i) = IsBadAfter joints lines i bytes

-- there are n lines, which are too many; so the bytes are no log
pub record IsTooLong (joints : ℕ) (n : ℕ) (bytes : List ℕ) : Type 0 where
  pub count : n ≡ lines_in bytes
  pub many : line_limit < n
  pub no_log : (others : List Line) → IsLog joints bytes others → ⊥

-- why no line was read
abbrev pub StopsAtOnce : ℕ → LinesFault → List ℕ → Type 0
StopsAtOnce joints (too_many_lines n) bytes = IsTooLong joints n bytes
StopsAtOnce joints no_memory_for_lines bytes = Unit {0}

-- why reading stopped
abbrev pub StopsReading : ℕ → LogFault → List ℕ → Type 0
StopsReading joints (too_many n) bytes = IsTooLong joints n bytes
StopsReading joints (bad_line i) bytes = IsFirstBadLine joints i bytes
StopsReading joints no_memory bytes = Unit {0}
