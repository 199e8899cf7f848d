-- How large the numbers of a pair are.
use Rattle.std.proofs.Common.{ℕ, ◌*◌, ◌^◌, [], ◌∷◌, arith, pos}
use Rattle.std.proofs.lemmas.Int.{ints}
use Rattle.exact_algebra.proofs.Machine.{bounded, reads}
use Rattle.fixed_vec.specs.Vector.{IsBelow}
use Rattle.crowd_data.specs.declared.pair.Disc.{Disc}
use Rattle.crowd_data.specs.Limits.{IsWithin}
use Rattle.crowd_data.specs.Pairs.{IsPair, from_cutoff, relative_position, relative_velocity}
use Rattle.crowd_data.specs.declared.limits.TheConstants.{GREATEST_SPEED}
use Rattle.fixed_vec.proofs.Lengths.{coordinates_lt}

pub offset_small : (low high : Disc) (tau : ℕ) → IsPair low high tau → IsBelow (relative_position low high) (2 ^ 16)
offset_small low high tau h = coordinates_lt (relative_position low high) (2 ^ 16) h.near

pub velocity_within : (low high : Disc) (tau : ℕ) → IsPair low high tau → IsWithin (relative_velocity low high) (2 * GREATEST_SPEED)
velocity_within low high tau h = (omega (arith, ints, h.low_vel, h.high_vel), omega (arith, ints, h.low_vel, h.high_vel))

pub cutoff_small : (low high : Disc) (tau : ℕ) → IsPair low high tau → IsBelow (from_cutoff low high tau) (2 ^ 28)
cutoff_small low high tau h =
    let p = relative_position low high in let w = relative_velocity low high in
    let a = offset_small low high tau h in let b = velocity_within low high tau h in (
      bounded (pos tau ∷ w.x ∷ p.x ∷ []) (2 ^ 12 ∷ 2 ^ 15 ∷ 2 ^ 16 ∷ []) (2 ^ 28) (from_cutoff low high tau).x
          (omega arith, (omega arith, (omega arith, tt))) (search reads depth 40 fits 20000) tt,
      bounded (pos tau ∷ w.y ∷ p.y ∷ []) (2 ^ 12 ∷ 2 ^ 15 ∷ 2 ^ 16 ∷ []) (2 ^ 28) (from_cutoff low high tau).y
          (omega arith, (omega arith, (omega arith, tt))) (search reads depth 40 fits 20000) tt,
    )
