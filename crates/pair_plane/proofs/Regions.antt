-- What each region of a pair says of the discs.
use Rattle.std.proofs.Common.{◌≡◌, ℕ, refl, Bool, true, false, cond, pos, ◌*ℤ◌, ◌≤ℤ◌, ◌<ℤ◌}
use Rattle.std.specs.Prelude.{int_lt, ◌&&◌}
use Rattle.exact_algebra.proofs.Tests.{lt_false, lt_true}
use Rattle.fixed_vec.specs.Vector.{cross, dot, square}
use Rattle.crowd_data.specs.declared.pair.Disc.{Disc}
use Rattle.crowd_data.specs.declared.pair.Region.{Region}
use Rattle.crowd_data.specs.declared.pair.Region.TheVariants.{Arc, Left, Right, Overlap}
use Rattle.crowd_data.specs.Pairs.{from_cutoff, is_arc, is_overlap, combined_radius, relative_position, region_of}

and_left : (a b : Bool) → (a && b) ≡ true → a ≡ true
and_left true b e = refl
and_left false b e = e

-- the discs don't overlap
abbrev pub NoOverlap : Disc → Disc → Type 0
NoOverlap low high = (combined_radius low high *ℤ combined_radius low high) ≤ℤ square (relative_position low high)

-- a fact of the region holds where it holds of each region that can be
pub region_cases : (low high : Disc) (tau : ℕ) (P : Region → Type 0)
    → P Overlap
    → (dot (from_cutoff low high tau) (relative_position low high) <ℤ pos 0 → P Arc)
    → (NoOverlap low high → P Left)
    → (NoOverlap low high → P Right)
    → P (region_of low high tau)
region_cases low high tau P overlap arc left right = by (is_overlap low high) refl (is_arc low high tau) refl (int_lt (pos 0) (cross (relative_position low high) (from_cutoff low high tau)))
  where
    by : (a : Bool) → is_overlap low high ≡ a → (b : Bool) → is_arc low high tau ≡ b → (c : Bool) → P (cond a Overlap (cond b Arc (cond c Left Right)))
    by true e b f c = overlap
    by false e true f c = arc (lt_true _ _ (and_left _ _ f))
    by false e false f true = left (lt_false _ _ e)
    by false e false f false = right (lt_false _ _ e)
