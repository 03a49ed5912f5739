-- A direction by its half-angle tangent t: its cosine and its sine are fractions in t.
use Rattle.std.specs.Prelude.{pos, ◌+ℤ◌, ◌-ℤ◌, ◌*ℤ◌}
use Rattle.drm_num.specs.Fraction.{Fraction}

-- (1 - t²) / (1 + t²)
abbrev pub cosine : Fraction → Fraction
cosine t = record {
  top = (t.bottom *ℤ t.bottom) -ℤ (t.top *ℤ t.top);
  bottom = (t.bottom *ℤ t.bottom) +ℤ (t.top *ℤ t.top);
}

-- 2t / (1 + t²)
abbrev pub sine : Fraction → Fraction
sine t = record {
  top = pos 2 *ℤ (t.top *ℤ t.bottom);
  bottom = (t.bottom *ℤ t.bottom) +ℤ (t.top *ℤ t.top);
}
