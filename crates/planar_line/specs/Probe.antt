-- The point that a probe stands for.
use Rattle.fixed_vec.specs.Point.{Rational}
use Rattle.planar_line.specs.declared.probe.Form.{Form}
use Rattle.planar_line.specs.declared.probe.Form.TheVariants.{Bits64, Bits128}

abbrev pub point_of : Form → Rational
point_of (Bits64 p) = record { x = p.x; y = p.y; q = p.q }
point_of (Bits128 p) = p
