use Rattle.std.proofs.Common.{[], ◌∷◌, arith}
use Rattle.std.specs.List.{All}
use Rattle.std.proofs.lemmas.List.Elements.{All-nil, All-cons}
use Rattle.fixed_vec.specs.HalfPlane.{Plane}
use Rattle.planar_line.specs.Relief.{HasReliefRoom}
use Rattle.planar_line.proofs.Reliefs.{keep-room}
use Rattle.geometry_tests.proofs.programs.least_of_three.Goals as goal

three : (a b c : Plane) → HasReliefRoom a → HasReliefRoom b → HasReliefRoom c → All HasReliefRoom (a ∷ b ∷ c ∷ [])
three a b c h k l = All-cons HasReliefRoom a (b ∷ c ∷ []) h (All-cons HasReliefRoom b (c ∷ []) k (All-cons HasReliefRoom c [] l (All-nil HasReliefRoom)))

pub meets-requires-clause-bounds : goal.meets-requires-clause-bounds
meets-requires-clause-bounds g c = keep-room c.args.hard 262143 _ (omega arith) (three c.args.first c.args.second c.args.third c.requires.first c.requires.second c.requires.third)

pub least_relief-requires-clause-bounds : goal.least_relief-requires-clause-bounds
least_relief-requires-clause-bounds g c = keep-room c.args.hard 262143 _ (omega arith) (three c.args.first c.args.second c.args.third c.requires.first c.requires.second c.requires.third)
