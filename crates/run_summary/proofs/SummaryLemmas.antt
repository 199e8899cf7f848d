-- What a summary tells of one more body, or of one more frame.
use Rattle.std.proofs.Common.{◌≡◌, ◌∙◌, ◌<◌, ◌+◌, ℕ, max, nat_cmp, cond, refl, List, [], ◌∷◌, ◌++◌, length, length-append, append-nil, take, ap, arith, ◌+ℤ◌}
use Rattle.std.specs.Ordering.{ord_max}
use Rattle.std.proofs.lemmas.Grind.{common_steps, flat_map-append}
use Rattle.std.proofs.lemmas.Int.{ints}
use Rattle.std.proofs.lemmas.List.{take_more}
use Rattle.std.proofs.lemmas.List.Sums.{sum_by-append}
use Rattle.crowd_data.specs.declared.frame.Body.{Body}
use Rattle.crowd_data.specs.declared.frame.Mark.{Mark}
use Rattle.crowd_data.specs.declared.frame.Mark.TheVariants.{Feasible, Fallback, Stopped, Crowded}
use Rattle.crowd_data.specs.Run.{Snapshot, body_at, no_body}
use Rattle.run_summary.specs.Summary.{bodies_of, count_of_mark, greatest_relief, last_of, same_mark, sum_of_positions, tally_of, with_frame}

-- the greater of two numbers, as code finds it
pub ord_max_is : (a b : ℕ) → ord_max nat_cmp a b ≡ max a b
ord_max_is a b = grind (arith, common_steps)

bodies_of-push : (frames : List Snapshot) (frame : Snapshot) → bodies_of (frames ++ frame ∷ []) ≡ bodies_of frames ++ frame.bodies
bodies_of-push frames frame =
    flat_map-append (λ (f : Snapshot). f.bodies) frames (frame ∷ []) ∙ ap (λ (tail : List Body). bodies_of frames ++ tail) (append-nil frame.bodies)

pub greatest_relief-append : (front back : List Body) → greatest_relief (front ++ back) ≡ max (greatest_relief front) (greatest_relief back)
greatest_relief-append [] back = omega arith
greatest_relief-append (body ∷ front) back = omega (arith, greatest_relief-append front back)

pub sum_of_positions-append-x : (front back : List Body) → (sum_of_positions (front ++ back)).x ≡ (sum_of_positions front).x +ℤ (sum_of_positions back).x
sum_of_positions-append-x [] back = omega (arith, ints)
sum_of_positions-append-x (body ∷ front) back = omega (arith, ints, sum_of_positions-append-x front back)

pub sum_of_positions-append-y : (front back : List Body) → (sum_of_positions (front ++ back)).y ≡ (sum_of_positions front).y +ℤ (sum_of_positions back).y
sum_of_positions-append-y [] back = omega (arith, ints)
sum_of_positions-append-y (body ∷ front) back = omega (arith, ints, sum_of_positions-append-y front back)

-- with one more body of a list
module _ (bodies : List Body) (i : ℕ) (h : i < length bodies) where
  pub greatest_relief_more : (so_far next : ℕ) → next ≡ ord_max nat_cmp so_far (body_at bodies i).relief
      → so_far ≡ greatest_relief (take i bodies) → next ≡ greatest_relief (take (i + 1) bodies)
  greatest_relief_more so_far next e before =
      rw (take_more bodies i no_body h)
      (omega (arith, ord_max_is so_far (body_at bodies i).relief, greatest_relief-append (take i bodies) (body_at bodies i ∷ [])))

  pub sum_of_positions_more-x : (sum_of_positions (take (i + 1) bodies)).x ≡ (sum_of_positions (take i bodies)).x +ℤ (body_at bodies i).pos.x
  sum_of_positions_more-x = rw (take_more bodies i no_body h) (omega (arith, ints, sum_of_positions-append-x (take i bodies) (body_at bodies i ∷ [])))

  pub sum_of_positions_more-y : (sum_of_positions (take (i + 1) bodies)).y ≡ (sum_of_positions (take i bodies)).y +ℤ (body_at bodies i).pos.y
  sum_of_positions_more-y = rw (take_more bodies i no_body h) (omega (arith, ints, sum_of_positions-append-y (take i bodies) (body_at bodies i ∷ [])))

-- with one more frame at the end
module _ (frames : List Snapshot) (frame : Snapshot) where
  count_of_mark-push : (mark : Mark) → count_of_mark mark (bodies_of (frames ++ frame ∷ [])) ≡ count_of_mark mark (bodies_of frames) + count_of_mark mark frame.bodies
  count_of_mark-push mark = rw (bodies_of-push frames frame) (sum_by-append (λ (body : Body). cond (same_mark body.mark mark) 1 0) (bodies_of frames) frame.bodies)

  greatest_relief-push : greatest_relief (bodies_of (frames ++ frame ∷ [])) ≡ max (greatest_relief (bodies_of frames)) (greatest_relief frame.bodies)
  greatest_relief-push = rw (bodies_of-push frames frame) (greatest_relief-append (bodies_of frames) frame.bodies)

  length-push : length (frames ++ frame ∷ []) ≡ length frames + 1
  length-push = omega (arith, length-append {A = Snapshot})

  pub tally_of-push : tally_of (frames ++ frame ∷ []) ≡ with_frame (tally_of frames) frame
  tally_of-push =
      cc (length-push, count_of_mark-push Feasible, count_of_mark-push Fallback, count_of_mark-push Stopped, count_of_mark-push Crowded, greatest_relief-push)

-- the last frame, with one more frame at the end
pub last_of-push : (first : Snapshot) (rest : List Snapshot) (frame : Snapshot) → last_of first (rest ++ frame ∷ []) ≡ frame
last_of-push first [] frame = refl
last_of-push first (next ∷ rest) frame = last_of-push next rest frame
