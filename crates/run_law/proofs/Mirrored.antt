-- Keeping apart is the same of two agents whichever comes first.
use Rattle.std.proofs.Common.{◌≡◌, ◌≤◌, ◌+◌, ◌*◌, ℕ, [], ◌∷◌, sym, ap, subst, arith, ℤ, pos, ◌*ℤ◌, ◌≤ℤ◌, unsigned_abs}
use Rattle.std.proofs.Math.Nat.{add_comm, min_comm}
use Rattle.exact_algebra.proofs.Ring.{equal, quotes}
use Rattle.fixed_vec.specs.declared.vector.V2.{V2}
use Rattle.fixed_vec.specs.Vector.{minus, plus, square, times}
use Rattle.fixed_vec.proofs.Squares.{square-minus}
use Rattle.crowd_data.specs.declared.pair.Place.{Place}
use Rattle.crowd_data.specs.Advice.{agent_at, place_of}
use Rattle.crowd_data.specs.Neighbours.{IsNear}
use Rattle.crowd_data.specs.Run.{Snapshot, crowd_of}
use Rattle.crowd_data.specs.Safety.{ApartThroughout, IsApart}
use Rattle.crowd_data.specs.SafeSteps.{AreApart, AreNear, KeepsApart, StayApart, at_in, radii, vel_in}
use Rattle.crowd_data.specs.Scenario.{Parts}

-- the way
mirrored_way : (a u b v : V2) (m k : ℤ) → square (plus (times m (minus b a)) (times k (minus v u))) ≡ square (plus (times m (minus a b)) (times k (minus u v)))
mirrored_way a u b v m k = equal (a.x ∷ a.y ∷ u.x ∷ u.y ∷ b.x ∷ b.y ∷ v.x ∷ v.y ∷ m ∷ k ∷ []) (search quotes depth 60 fits 80000) tt

mirrored_apart : (a b : V2) (R S : ℤ) → R ≡ S → IsApart a b R → IsApart b a S
mirrored_apart a b R S e apart = subst (λ (z : ℤ). IsApart b a z) e (subst (λ (z : ℤ). (R *ℤ R) ≤ℤ z) (square-minus a b) apart)

mirrored_throughout : (a u b v : V2) (R S : ℤ) → R ≡ S → ApartThroughout a u b v R → ApartThroughout b v a u S
mirrored_throughout a u b v R S e apart k m hk hm some =
    subst (λ (z : ℤ). (m *ℤ m *ℤ (z *ℤ z)) ≤ℤ square (plus (times m (minus a b)) (times k (minus u v)))) e
    (subst (λ (z : ℤ). (m *ℤ m *ℤ (R *ℤ R)) ≤ℤ z) (mirrored_way a u b v m k) (apart k m hk hm some))

pub mirrored_near : (a b : Place) → IsNear a b → IsNear b a
mirrored_near a b near =
    let reach : a.radius + b.radius + a.speed + b.speed ≡ b.radius + a.radius + b.speed + a.speed = omega arith in
    subst (λ (n : ℕ). unsigned_abs (square (minus b.pos a.pos)) ≤ n * n) reach
    (subst (λ (z : ℤ). unsigned_abs z ≤ (a.radius + b.radius + a.speed + b.speed) * (a.radius + b.radius + a.speed + b.speed)) (square-minus b.pos a.pos) near)

-- the law of two agents, the other way round
pub mirrored : (scenario : Parts) (frame next : Snapshot) (a b : ℕ) → KeepsApart scenario frame next b a → KeepsApart scenario frame next a b
mirrored scenario frame next a b keeps =
    let ra = (agent_at scenario.agents a).radius in
    let rb = (agent_at scenario.agents b).radius in
    let here : radii scenario a b ≡ radii scenario b a = ap (λ (n : ℕ). pos n) (add_comm ra rb) in
    let there : radii scenario b a ≡ radii scenario a b = sym here in
    let crowd = crowd_of scenario.agents frame.bodies in
    let back : AreNear scenario frame b a → AreNear scenario frame a b = mirrored_near (place_of (agent_at crowd b)) (place_of (agent_at crowd a)) in
    let over : AreApart scenario frame b a → AreApart scenario frame a b = mirrored_apart (at_in frame b) (at_in frame a) (radii scenario b a) (radii scenario a b) there in
    let on : AreApart scenario frame a b → AreApart scenario frame b a = mirrored_apart (at_in frame a) (at_in frame b) (radii scenario a b) (radii scenario b a) here in
    let stay : (steps : ℕ) → StayApart scenario frame next steps b a → StayApart scenario frame next steps a b =
    λ steps. mirrored_throughout (at_in frame b) (times (pos steps) (vel_in next b)) (at_in frame a) (times (pos steps) (vel_in next a)) (radii scenario b a) (radii scenario a b) there in
    record {
      pairs = λ apart both. stay 1 (keeps.pairs (on apart) (both.1, both.0));
      overlapping = λ overlap both. mirrored_apart (at_in next b) (at_in next a) (radii scenario b a) (radii scenario a b) there (keeps.overlapping (λ apart. overlap (over apart)) (both.1, both.0));
      far = λ far. stay 1 (keeps.far (λ near. far (back near)));
      horizon = λ apart both see. subst (λ (steps : ℕ). StayApart scenario frame next steps a b) (min_comm (agent_at scenario.agents b).horizon (agent_at scenario.agents a).horizon)
          (stay _ (keeps.horizon (on apart) (both.1, both.0) (see.1, see.0)));
    }
