-- The definitions on numbers worked out by hand.
use Rattle.std.proofs.Common.{◌≡◌, List, [], ◌∷◌, ℕ, length, refl, arith, pos, negsuc}
use Rattle.exact_algebra.proofs.Rounding.{ceil_root_between}
use Rattle.fixed_vec.specs.declared.vector.V2.{V2}
use Rattle.fixed_vec.specs.Vector.{zero_vector}
use Rattle.crowd_data.specs.declared.frame.Body.{Body}
use Rattle.crowd_data.specs.declared.frame.Mark.TheVariants.{Start}
use Rattle.crowd_data.specs.declared.pair.Place.{Place}
use Rattle.crowd_data.specs.declared.post.Goal.{Goal}
use Rattle.crowd_data.specs.declared.post.Post.{Post}
use Rattle.crowd_data.specs.Headings.{heading}
use Rattle.crowd_data.specs.Neighbours.{IsNear, neighbours}
use Rattle.crowd_data.specs.Pairs.{part_of}
use Rattle.crowd_data.specs.RingPlanes.{edge_plane, ring_points, ring_radius}
use Rattle.crowd_data.specs.Run.{after_posts, script_of}

abbrev at : ℕ → ℕ → V2
at x y = record { x = pos x; y = pos y }

-- ---- headings from the origin

abbrev to : V2 → ℕ → Goal
to place pace = record { controller = 0; agent = 0; at = place; pace = pace }

-- too far for one step: (300, 400) has the length 500
far : heading zero_vector (to (at 300 400) 100) ≡ at 60 80
far = rw (ceil_root_between 250000 500 (omega arith) (omega arith)) refl

within_a_step : heading zero_vector (to (at 300 400) 600) ≡ at 300 400
within_a_step = refl

-- (-7, -7) has the whole length 10, and -21/10 is cut towards zero
cut_towards_zero : heading zero_vector (to (record { x = negsuc 6; y = negsuc 6 }) 3) ≡ record { x = negsuc 1; y = negsuc 1 }
cut_towards_zero = rw (ceil_root_between 98 10 (omega arith) (omega arith)) refl

-- ---- neighbours

abbrev place : V2 → Place
place p = record { pos = p; radius = 500; speed = 400 }

-- one at each side, equally far
abbrev between_two : List Place
between_two = place zero_vector ∷ place (at 1200 0) ∷ place (record { x = negsuc 1199; y = pos 0 }) ∷ []

-- of two at one distance the lower number is kept
tie : neighbours between_two 0 15000 1 ≡ record { agent = 1; dist = 1440000 } ∷ []
tie = refl

both_seen : neighbours between_two 0 15000 10 ≡ record { agent = 1; dist = 1440000 } ∷ record { agent = 2; dist = 1440000 } ∷ []
both_seen = refl

-- the range itself is out of range
out_of_range : neighbours between_two 0 1200 10 ≡ []
out_of_range = refl

-- the nearest comes first, whatever its number
nearest_first : neighbours between_two 2 15000 10 ≡ record { agent = 0; dist = 1440000 } ∷ record { agent = 1; dist = 5760000 } ∷ []
nearest_first = refl

-- 1800 apart is near, as two radii of 500 and two speeds of 400 allow, and 1801 is not
near : IsNear (place zero_vector) (place (at 0 1800))
near = omega arith

not_near : ¬ IsNear (place zero_vector) (place (at 0 1801))
not_near h = omega (arith, h)

-- ---- weights

-- three parts of four
heavier : part_of (pos 1000) 3 1 ≡ pos 750
heavier = refl

-- an odd lack's half is rounded up, also where nothing is lacking
half_up : part_of (pos 7) 1 1 ≡ pos 4
half_up = refl

half_of_room : part_of (negsuc 6) 5 5 ≡ negsuc 2
half_of_room = refl

lightest : part_of (pos 1000) 1 16 ≡ pos 59
lightest = refl

-- ---- rings

plain_count : length (ring_points 36) ≡ 36
plain_count = refl

fine_count : length (ring_points 60) ≡ 60
fine_count = refl

-- the first edge of the fine ring, at its own distance
fine_edge : edge_plane (ring_radius 60) 325 (at 325 0) (at 323 36) ≡ record { n = record { x = negsuc 35; y = negsuc 1 }; c = negsuc 11699 }
fine_edge = refl

-- ---- posts

abbrev resting : Body
resting = record { agent = 0; pos = zero_vector; vel = zero_vector; pref = zero_vector; mark = Start; relief = 0 }

abbrev set_to : ℕ → V2 → Post
set_to seq vel = record { controller = 16; seq = seq; agent = 0; vel = vel }

-- the last of two posts wins
last_wins : after_posts (set_to 0 (at 100 0) ∷ set_to 1 (at 0 100) ∷ []) (resting ∷ []) ≡ record resting { pref = at 0 100 } ∷ []
last_wins = refl

-- a scripted post has its place among all posts of the scenario as seq
scripted : script_of (record { version = 1; ring = 36; steps = 5; agents = []; segments = []; posts = record { frame = 2; agent = 0; vel = at 1 0 } ∷ record { frame = 3; agent = 0; vel = at 2 0 } ∷ []; goals = [] }) 3
    ≡ set_to 1 (at 2 0) ∷ []
scripted = refl
