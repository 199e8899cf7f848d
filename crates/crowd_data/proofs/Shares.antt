-- The shares that two agents of a crowd take against each other: the lower one has the lower share.
use Rattle.std.proofs.Common.{◌≡◌, ◌<◌, ◌≤◌, ℕ, Bool, true, false, cond, ltb, List, ap}
use Rattle.std.specs.Prelude.{min}
use Rattle.std.proofs.lemmas.Bool.{lt-ltb, le-ltb}
use Rattle.fixed_vec.specs.HalfPlane.{Plane, drawn_of}
use Rattle.crowd_data.specs.declared.agent.Agent.{Agent}
use Rattle.crowd_data.specs.Advice.{agent_at, disc_of, share_against}
use Rattle.crowd_data.specs.Pairs.{higher_share, lower_share}

-- the half-plane that a test chooses, drawn in
first_drawn : (t : Bool) (x y : Plane) → t ≡ true → drawn_of (cond t x y) ≡ drawn_of x
first_drawn t x y e = ap (λ b. drawn_of (cond b x y)) e

second_drawn : (t : Bool) (x y : Plane) → t ≡ false → drawn_of (cond t x y) ≡ drawn_of y
second_drawn t x y e = ap (λ b. drawn_of (cond b x y)) e

pub lower_against : (crowd : List Agent) (who other : ℕ) → who < other
    → share_against crowd who other
    ≡ drawn_of (lower_share (disc_of (agent_at crowd who)) (disc_of (agent_at crowd other)) (min (agent_at crowd who).horizon (agent_at crowd other).horizon) (agent_at crowd who).weight (agent_at crowd other).weight)
lower_against crowd who other h = first_drawn (ltb who other) _ _ (lt-ltb who other h)

pub higher_against : (crowd : List Agent) (who other : ℕ) → other ≤ who
    → share_against crowd who other
    ≡ drawn_of (higher_share (disc_of (agent_at crowd other)) (disc_of (agent_at crowd who)) (min (agent_at crowd other).horizon (agent_at crowd who).horizon) (agent_at crowd other).weight (agent_at crowd who).weight)
higher_against crowd who other h = second_drawn (ltb who other) _ _ (le-ltb who other h)
