-- The two shares of a pair add up to its half-plane.
use Rattle.std.proofs.Common.{[], ◌∷◌, ℕ, ℤ, pos, neg_ℤ, ◌+ℤ◌, ◌-ℤ◌, ◌*ℤ◌, ◌≤ℤ◌}
use Rattle.exact_algebra.proofs.Ring.{quotes, shown}
use Rattle.exact_algebra.proofs.Order.{sum_nonneg, gap_nonneg}
use Rattle.fixed_vec.specs.declared.vector.V2.{V2}
use Rattle.fixed_vec.specs.Vector.{dot, minus, opposite}
use Rattle.fixed_vec.specs.HalfPlane.{drawn_of}
use Rattle.fixed_vec.specs.Point.{IsIn, IsPoint, Rational, rounded_of, whole}
use Rattle.fixed_vec.proofs.DrawingIn.{rounded_in_plane}
use Rattle.crowd_data.specs.declared.pair.Disc.{Disc}
use Rattle.crowd_data.specs.Pairs.{higher_share, lack, lower_share, part_of, relative_plane}

-- a part of what is lacking and the rest make up the whole, whatever the part is
parts_add : (n v w low_vel high_vel : V2) (c part : ℤ)
    → ((dot n v +ℤ part) *ℤ pos 1) ≤ℤ dot n low_vel
    → ((neg_ℤ (dot n w) +ℤ (c -ℤ dot n (minus v w) -ℤ part)) *ℤ pos 1) ≤ℤ dot (opposite n) high_vel
    → (c *ℤ pos 1) ≤ℤ dot n (minus low_vel high_vel)
parts_add n v w low_vel high_vel c part low high =
    shown (n.x ∷ n.y ∷ v.x ∷ v.y ∷ w.x ∷ w.y ∷ low_vel.x ∷ low_vel.y ∷ high_vel.x ∷ high_vel.y ∷ c ∷ part ∷ [])
    (sum_nonneg _ _ (gap_nonneg _ _ low) (gap_nonneg _ _ high)) (search quotes depth 60 fits 80000) tt

-- velocities that meet the shares differ by one that meets the half-plane of the pair
pub shares_add : (low high : Disc) (tau a b : ℕ) (low_vel high_vel : V2) → IsIn (lower_share low high tau a b) (whole low_vel) → IsIn (higher_share low high tau a b) (whole high_vel)
    → IsIn (relative_plane low high tau) (whole (minus low_vel high_vel))
shares_add low high tau a b low_vel high_vel in_lower in_higher =
    parts_add (relative_plane low high tau).n low.vel high.vel low_vel high_vel (relative_plane low high tau).c (part_of (lack low high tau) a b) in_lower in_higher

-- so do the roundings of a point of each drawn share
pub rounded_shares_add : (low high : Disc) (tau a b : ℕ) (p q : Rational) → IsPoint p → IsPoint q
    → IsIn (drawn_of (lower_share low high tau a b)) p → IsIn (drawn_of (higher_share low high tau a b)) q
    → IsIn (relative_plane low high tau) (whole (minus (rounded_of p) (rounded_of q)))
rounded_shares_add low high tau a b p q p_point q_point in_lower in_higher =
    shares_add low high tau a b (rounded_of p) (rounded_of q)
    (rounded_in_plane (lower_share low high tau a b) p p_point in_lower) (rounded_in_plane (higher_share low high tau a b) q q_point in_higher)
