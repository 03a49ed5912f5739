-- What a reply names and accepts, and that what is true of a front is true of it in every longer history.
use Rattle.std.proofs.Common.{◌≡◌, ℕ, ◌≤◌, List, ◌++◌, length, take, ap, sym, ◌∙◌, subst, arith, Option, None, Some, IfSome, length-append}
use Rattle.std.proofs.lemmas.List.{take-append-le, take_all}
use Rattle.drm_shape.specs.declared.Shape.{Shape}
use Rattle.drm_talk.specs.Front.{Begins, EndsWithEdit}
use Rattle.drm_talk.specs.Exchange.{named, accepted}
use Rattle.drm_talk.specs.declared.Entry.{Entry}
use Rattle.drm_talk.specs.declared.Act.{Act}
use Rattle.drm_talk.specs.declared.Reply.{Reply}
use Rattle.drm_talk.specs.declared.Reply.TheVariants.{Put, Del, TickPut, TickDel}
use Rattle.drm_cellmap.specs.Roadmap.{Roadmap}
use Rattle.drm_report.specs.Edits.{slot_of, shape_of}
use Rattle.drm_report.specs.Reply.{IsPlaced, IsTrueOf, RightReply}
use Rattle.drm_report.specs.Step.{Serves}

-- what holds of the value of an option
pub of_value : {X : Type 0} (P : X → Type 0) (o : Option X) (x : X) → o ≡ Some x → IfSome o P → P x
of_value P o x is has = subst (λ (p : Option _). IfSome p P) is has

-- an accepted edit names its number
pub accepted_is_named : (reply : Reply) (n : ℕ) → accepted reply ≡ Some n → named reply ≡ Some n
accepted_is_named (Put m) n is = is
accepted_is_named (Del m) n is = is
accepted_is_named (TickPut m slot shape) n is = is
accepted_is_named (TickDel m slot) n is = is
accepted_is_named _ n is = absurd cc

-- the front that an accepted edit names ends with an edit of its caller
pub accepted_is_last : (front : List Entry) (caller : ℕ) (act : Act) (reply : Reply) (n : ℕ) → accepted reply ≡ Some n → IsPlaced front caller act reply → (slot : ℕ) × (content : Option Shape) × EndsWithEdit front caller slot content
accepted_is_last front caller act (Put m) n is placed = (slot_of act, shape_of act, placed)
accepted_is_last front caller act (Del m) n is placed = (slot_of act, None, placed)
accepted_is_last front caller act (TickPut m slot shape) n is placed = (slot, Some shape, placed)
accepted_is_last front caller act (TickDel m slot) n is placed = (slot, None, placed)
accepted_is_last front caller act _ n is placed = absurd cc

-- a history is no shorter than its fronts
pub front_is_shorter : (front history : List Entry) → Begins front history → length front ≤ length history
front_is_shorter front history (rest, is) = let long = ap length is ∙ length-append front rest in omega arith

-- what is true of the named front, of whatever is said of fronts
pub named_front_stays : (P : List Entry → Type 0) (front rest : List Entry) (o : Option ℕ) → IfSome o (λ n. (n ≤ length front) × P (take n front)) → IfSome o (λ n. (n ≤ length (front ++ rest)) × P (take n (front ++ rest)))
named_front_stays P front rest None told = tt
named_front_stays P front rest (Some n) told =
    let longer = length-append front rest in
    let within : n ≤ length front = told.0 in
    (omega arith, subst P (sym (take-append-le n front rest within)) told.1)

-- a right reply stays right when the history goes on
pub reply_stays : (map : Roadmap) (front history : List Entry) (caller : ℕ) (act : Act) (reply : Reply) → Begins front history → RightReply map front caller act reply → RightReply map history caller act reply
reply_stays map front history caller act reply (rest, is) right =
    subst (λ (h : List Entry). RightReply map h caller act reply) (sym is)
    (record { kind = right.kind; told = named_front_stays (λ h. IsTrueOf map h caller act reply) front rest (named reply) right.told })

-- the front of all entries
pub named_all : (P : List Entry → Type 0) (history : List Entry) (o : Option ℕ) → IfSome o (λ n. (n ≡ length history) × P history) → IfSome o (λ n. (n ≤ length history) × P (take n history))
named_all P history None told = tt
named_all P history (Some n) told =
    let is : n ≡ length history = told.0 in
    (omega arith, subst P (sym (take_all n history (omega arith))) told.1)

-- a line that was served has a right reply
pub served_is_right : (map : Roadmap) (caller : ℕ) (act : Act) (reply : Reply) (before after : List Entry) → Serves map caller act reply before after → RightReply map after caller act reply
served_is_right map caller act reply before after serves =
    record { kind = serves.kind; told = named_all (λ h. IsTrueOf map h caller act reply) after (named reply) serves.told }
