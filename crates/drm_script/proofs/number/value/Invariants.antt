-- the digits so far, and their value
use Rattle.std.proofs.Common.{◌≡◌, ◌<◌, ◌≤◌, ◌-◌, ◌^◌, length, take}
use Rattle.std.specs.Str.Parse.{AllDigits, digits_value}
use Rattle.drm_script.proofs.number.value.Given as goal

abbrev pub invariant-loop-digit : goal.invariant-loop-digit
invariant-loop-digit l = record {
  digits : AllDigits 10 (take l.count l.bytes);
  value : l.number ≡ digits_value 10 (take l.count l.bytes);
  small : l.number < 2 ^ 64;
  inside : l.count ≤ length l.bytes;
}

abbrev pub decreases-loop-digit : goal.decreases-loop-digit
decreases-loop-digit l = length l.bytes - l.count
