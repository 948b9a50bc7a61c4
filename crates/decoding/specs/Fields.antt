-- What the decoder relies on of a layout's widths.
-- Assumes nothing.
use Rattle.std.specs.Prelude.{◌≡◌, ◌⊎◌, ℕ, ◌≤◌}
use Rattle.std.proofs.Math.Option.{Option, none, some}
use Rattle.recording.specs.declared.Layout.{Layout}
use Rattle.recording.specs.Layout.{widths}

abbrev pub Wide : ℕ → Type 0
Wide w = (w ≡ 0) ⊎ (w ≡ 8)

pub record Fields (l : Layout) : Type 0 where
  pub who : l.who ≤ 2
  pub a : l.a ≤ 2
  pub b : l.b ≤ 2
  pub mask : Wide l.mask

-- an unknown kind has no task or CPU
abbrev pub widths_of : Option Layout → Layout
widths_of none = widths 0 0 0 0
widths_of (some l) = l
