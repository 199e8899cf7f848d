-- No soft half-plane of an agent with some radius has a zero normal, whatever it is taken against.
use Rattle.std.proofs.Common.{◌≡◌, ℕ, ◌+◌, ◌≤◌, Bool, true, false, cond, ltb, List, [], ◌∷◌, get_or, All, refl, sym, subst, arith, ℤ, pos, neg_ℤ, ◌*ℤ◌, ◌≤ℤ◌, ◌<ℤ◌}
use Rattle.std.specs.Prelude.{int_lt, min}
use Rattle.std.proofs.lemmas.Int.{ints}
use Rattle.std.proofs.lemmas.List.Elements.{All-map}
use Rattle.exact_algebra.proofs.Order.{gap_nonneg, product_nonneg, sum_nonneg}
use Rattle.exact_algebra.proofs.Ring.{quotes, shown}
use Rattle.exact_algebra.proofs.Tests.{both_of, lt_false, lt_true}
use Rattle.fixed_vec.specs.declared.vector.V2.{V2}
use Rattle.fixed_vec.specs.Vector.{cross, dot, minus, perp, square, times}
use Rattle.fixed_vec.specs.HalfPlane.{Plane}
use Rattle.fixed_vec.proofs.Squares.{square-opposite}
use Rattle.crowd_data.specs.declared.agent.Agent.{Agent}
use Rattle.crowd_data.specs.declared.pair.Disc.{Disc}
use Rattle.crowd_data.specs.declared.pair.Region.TheVariants.{Arc, Left, Right, Overlap}
use Rattle.crowd_data.specs.Advice.{agent_at, disc_of, neighbours_of, share_against, soft_planes}
use Rattle.crowd_data.specs.Pairs.{from_cutoff, higher_share, is_arc, is_overlap, combined_radius, leg_length, leg_normal, lower_share, relative_position, relative_in, relative_plane}
use Rattle.crowd_data.proofs.PairNormals.{overlap_normal-nonzero}
use Rattle.separation_law.proofs.Borders.{normal_nonzero}

-- its normal isn't zero
abbrev pub IsLong : Plane → Type 0
IsLong plane = pos 0 <ℤ square plane.n

-- ---- the relative plane, region by region

-- a leg's normal turns against where the other disc is
leg_nonzero : (p : V2) (R l : ℤ) → pos 1 ≤ℤ R → (R *ℤ R) ≤ℤ square p → pos 0 <ℤ square (minus (times l (perp p)) (times R p))
leg_nonzero p R l some far =
    let r = gap_nonneg _ _ some in
    let rr : pos 1 ≤ℤ (R *ℤ R) = shown (R ∷ []) (sum_nonneg _ _ (product_nonneg _ _ r r) (sum_nonneg _ _ r r)) (search quotes depth 40) tt in
    let pp : pos 1 ≤ℤ square p = omega (arith, ints) in
    let more = gap_nonneg _ _ pp in
    let n = minus (times l (perp p)) (times R p) in
    let against : dot n p ≤ℤ neg_ℤ (pos 1) = shown (p.x ∷ p.y ∷ R ∷ l ∷ []) (sum_nonneg _ _ (product_nonneg _ _ r more) (sum_nonneg _ _ r more)) (search quotes depth 60 fits 80000) tt in
    normal_nonzero n p (omega (arith, ints))

module _ (low high : Disc) (tau : ℕ) (some : 1 ≤ low.radius + high.radius) where
  one_leg : (l : ℤ) → is_overlap low high ≡ false → pos 0 <ℤ square (leg_normal low high l)
  one_leg l e = leg_nonzero (relative_position low high) (combined_radius low high) l (omega (arith, ints)) (lt_false _ _ e)

  relative_nonzero : IsLong (relative_plane low high tau)
  relative_nonzero = by (is_overlap low high) refl (is_arc low high tau) refl (int_lt (pos 0) (cross (relative_position low high) (from_cutoff low high tau)))
    where
      by : (a : Bool) → is_overlap low high ≡ a → (b : Bool) → is_arc low high tau ≡ b → (c : Bool) → IsLong (relative_in low high tau (cond a Overlap (cond b Arc (cond c Left Right))))
      by true e b f c = overlap_normal-nonzero low high
      by false e true f c = normal_nonzero (from_cutoff low high tau) (relative_position low high) (lt_true _ _ (both_of _ _ f).0)
      by false e false f true = one_leg (leg_length low high) e
      by false e false f false = one_leg (neg_ℤ (leg_length low high)) e

-- ---- the shares

higher_nonzero : (low high : Disc) (tau low_weight high_weight : ℕ) → 1 ≤ low.radius + high.radius → IsLong (higher_share low high tau low_weight high_weight)
higher_nonzero low high tau low_weight high_weight some = subst (λ z. pos 0 <ℤ z) (sym (square-opposite (relative_plane low high tau).n)) (relative_nonzero low high tau some)

module _ (crowd : List Agent) (who : ℕ) (some : 1 ≤ (agent_at crowd who).radius) where
  share_nonzero : (other : ℕ) → IsLong (share_against crowd who other)
  share_nonzero other = by (ltb who other)
    where
      a : Disc
      a = disc_of (agent_at crowd who)

      b : Disc
      b = disc_of (agent_at crowd other)

      by : (t : Bool) → IsLong (cond t (lower_share a b (min (agent_at crowd who).horizon (agent_at crowd other).horizon) (agent_at crowd who).weight (agent_at crowd other).weight) (higher_share b a (min (agent_at crowd other).horizon (agent_at crowd who).horizon) (agent_at crowd other).weight (agent_at crowd who).weight))
      by true = relative_nonzero a b (min (agent_at crowd who).horizon (agent_at crowd other).horizon) (omega arith)
      by false = higher_nonzero b a (min (agent_at crowd other).horizon (agent_at crowd who).horizon) (agent_at crowd other).weight (agent_at crowd who).weight (omega arith)

  pub soft_nonzero : All IsLong (soft_planes crowd who)
  soft_nonzero = All-map IsLong (share_against crowd who) (neighbours_of crowd who) (λ k other below. share_nonzero (get_or (neighbours_of crowd who) k other))
