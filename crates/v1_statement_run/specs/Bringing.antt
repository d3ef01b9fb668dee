-- How a parameter is brought in: into the frame at once, or into the waiting frame.
use Rattle.std.specs.Prelude.{ℕ, Bool, if◌then◌else◌}
use Rattle.v1_ready_blocks.specs.Moments.{Moment}
use Rattle.v1_ready_blocks.specs.Tests.{Applied}
use Rattle.v1_ready_blocks.specs.Arguments.{Incoming, placed, waits}

abbrev pub brought : (ℕ → Moment → Applied) → Bool → Incoming → Moment → Moment
brought runs apart a m = if apart then waits runs a m else placed runs a m
