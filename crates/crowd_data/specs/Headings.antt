-- How a controller steers an agent to a goal.
use Rattle.std.specs.Prelude.{ℤ, pos, ◌*ℤ◌, int_div, int_le, if◌then◌else◌}
use Rattle.fixed_vec.specs.declared.vector.V2.{V2}
use Rattle.fixed_vec.specs.Vector.{minus, square}
use Rattle.fixed_vec.specs.HalfPlane.{whole_length}
use Rattle.crowd_data.specs.declared.post.Goal.{Goal}

-- n / d, cut towards zero
abbrev pub cut : ℤ → ℤ → ℤ
cut n d = int_div n d

-- straight to the goal, where one step of its pace reaches it; else as fast as its pace in that direction
abbrev pub heading : V2 → Goal → V2
heading at goal =
    let o = minus goal.at at in
    if int_le (square o) (pos goal.pace *ℤ pos goal.pace) then o
    else record { x = cut (o.x *ℤ pos goal.pace) (pos (whole_length o)); y = cut (o.y *ℤ pos goal.pace) (pos (whole_length o)) }
