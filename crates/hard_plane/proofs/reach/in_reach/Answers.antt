use Rattle.std.proofs.Common.{◌≡◌, ◌&&◌, true, ap, sym, ◌∙◌, rules, arith, pos, FitsSigned, w64, to_z-of_z}
use Rattle.std.proofs.lemmas.Int.{ints}
use Rattle.crowd_data.specs.Walls.{is_between, reach_of}
use Rattle.hard_plane.proofs.reach.in_reach.Goals as goal

pub returns-then-is_between : goal.returns-then-is_between
returns-then-is_between c =
    let at = c.args.pos in
    let s = c.args.segment.now in
    let g = pos (reach_of c.args.agent.now) in
    let f : FitsSigned w64 c.reach-grown.result = search rules in
    let zx : FitsSigned w64 at.x = omega (arith, ints, c.requires.position) in
    let zy : FitsSigned w64 at.y = omega (arith, ints, c.requires.position) in
    let ax : FitsSigned w64 s.a.x = omega (arith, ints, c.requires.segment.a) in
    let ay : FitsSigned w64 s.a.y = omega (arith, ints, c.requires.segment.a) in
    let bx : FitsSigned w64 s.b.x = omega (arith, ints, c.requires.segment.b) in
    let by : FitsSigned w64 s.b.y = omega (arith, ints, c.requires.segment.b) in
    let across : true ≡ is_between at.x s.a.x s.b.x g = simp c.reach-grown.ensures.value at (simp to_z-of_z at (sym c.if-is_between.true ∙ c.is_between.ensures)) in
    let along : c.is_between-then-is_between.result ≡ is_between at.y s.a.y s.b.y g = simp c.reach-grown.ensures.value at (simp to_z-of_z at c.is_between-then-is_between.ensures) in
    along ∙ ap (λ b. b && is_between at.y s.a.y s.b.y g) across
