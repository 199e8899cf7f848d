-- Half-planes that are relieved, by themselves and in a list after the first few.
use Rattle.std.proofs.Common.{◌≡◌, ℕ, ◌+◌, ◌-◌, ◌*◌, ◌<◌, ◌≤◌, List, [], ◌∷◌, length, get_or, take, drop, map, ap, subst, sym, ◌∙◌, ◌⊎◌, ⊎_elim, arith, pos, ◌-ℤ◌, ◌≤ℤ◌, ◌^◌, unsigned_abs, mul-le-mul}
use Rattle.std.proofs.lemmas.Int.{ints}
use Rattle.std.proofs.lemmas.List.{get_or_append_left, get_or-append_right, get_or-take, get_or-drop, get_or-map, get_or_default, get_or_read, length-take-le, length-drop, length-map, length-append}
use Rattle.std.specs.List.{All}
use Rattle.std.proofs.lemmas.List.Elements.{All-cons, All-drop}
use Rattle.std.proofs.lemmas.Bool.{cases_lt}
use Rattle.std.proofs.Math.Nat.{mul-le-mul_right}
use Rattle.exact_algebra.proofs.Ring.{quotes, shown}
use Rattle.exact_algebra.proofs.Order.{product_nonneg, sum_nonneg, gap_nonneg}
use Rattle.exact_algebra.proofs.Rounding.{ceil_root_first}
use Rattle.fixed_vec.specs.Vector.{square}
use Rattle.fixed_vec.specs.HalfPlane.{Plane, FitsPlane, relieved_of, whole_length}
use Rattle.fixed_vec.specs.Point.{Rational, IsPoint, IsIn}
use Rattle.fixed_vec.specs.Meeting.{relieved_after}
use Rattle.planar_line.specs.Relief.{CanBeRelieved, HasReliefRoom, KeepBounds, no_plane}
use Rattle.planar_line.proofs.Toward.{weak}

-- no relief changes nothing
pub relieved_of-zero : (plane : Plane) → relieved_of plane 0 ≡ plane
relieved_of-zero plane =
    let same : plane.c -ℤ pos (0 * whole_length plane.n) ≡ plane.c = omega (arith, ints) in
    λ i. record { n = plane.n; c = same i }

-- a half-plane that is relieved more has more points
pub relieved_more : (plane : Plane) (d e : ℕ) (p : Rational) → d ≤ e → IsPoint p → IsIn (relieved_of plane d) p → IsIn (relieved_of plane e) p
relieved_more plane d e p le hp inside =
    let l = whole_length plane.n in
    let more : d * l ≤ e * l = mul-le-mul_right l le in
    let room : pos (d * l) ≤ℤ pos (e * l) = omega (arith, ints) in
    shown (plane.n.x ∷ plane.n.y ∷ plane.c ∷ p.x ∷ p.y ∷ p.q ∷ pos (d * l) ∷ pos (e * l) ∷ [])
    (sum_nonneg _ _ (gap_nonneg _ _ inside) (product_nonneg _ p.q (gap_nonneg _ _ room) (weak p.q hp)))
    (search quotes depth 40 fits 20000) tt

relieved_in : (plane : Plane) (e : ℕ) (p : Rational) → IsPoint p → IsIn plane p → IsIn (relieved_of plane e) p
relieved_in plane e p hp inside = relieved_more plane 0 e p (omega arith) hp (subst (λ g. IsIn g p) (sym (relieved_of-zero plane)) inside)

-- ---- the list
module _ (hard relief : ℕ) (planes : List Plane) (le : hard ≤ length planes) where
  abbrev others : List Plane
  others = map (λ plane. relieved_of plane relief) (drop hard planes)

  pub get_or-hard : (k : ℕ) (e : Plane) → k < hard → get_or (relieved_after hard relief planes) k e ≡ get_or planes k no_plane
  get_or-hard k e l =
      let t = length-take-le hard planes le in
      get_or_append_left (take hard planes) others e k (omega arith) ∙ get_or-take hard planes k e l ∙ get_or_default planes k e no_plane (omega arith)

  get_or-others : (k : ℕ) (e : Plane) → hard ≤ k → k < length planes → get_or others (k - hard) e ≡ relieved_of (get_or planes k no_plane) relief
  get_or-others k e m l =
      let u = length-drop hard planes in
      let at : hard + (k - hard) ≡ k = omega arith in
      get_or-map (λ plane. relieved_of plane relief) (drop hard planes) (k - hard) no_plane e (omega arith)
      ∙ ap (λ plane. relieved_of plane relief) (get_or-drop hard planes (k - hard) no_plane ∙ ap (λ j. get_or planes j no_plane) at)

  pub get_or-soft : (k : ℕ) (e : Plane) → hard ≤ k → k < length planes → get_or (relieved_after hard relief planes) k e ≡ relieved_of (get_or planes k no_plane) relief
  get_or-soft k e m l = get_or-append_right (take hard planes) others hard k e (length-take-le hard planes le) m ∙ get_or-others k e m l

  pub length-relieved_after : length (relieved_after hard relief planes) ≡ length planes
  length-relieved_after =
      let t = length-take-le hard planes le in
      let u = length-drop hard planes in
      let m = length-map (drop hard planes) (λ plane. relieved_of plane relief) in
      let a = length-append (take hard planes) others in
      omega arith

  -- where a point is in a half-plane, it is in that half-plane of the relieved list
  pub relieved_after-in : (k : ℕ) (p : Rational) → k < length planes → IsPoint p → IsIn (get_or planes k no_plane) p → IsIn (get_or (relieved_after hard relief planes) k no_plane) p
  relieved_after-in k p l hp inside = ⊎_elim
      (λ a. subst (λ g. IsIn g p) (sym (get_or-hard k no_plane a)) inside)
      (λ a. subst (λ g. IsIn g p) (sym (get_or-soft k no_plane a l)) (relieved_in (get_or planes k no_plane) relief p hp inside))
      (cases_lt k hard)

  keeps : KeepBounds hard relief planes → (k : ℕ) → hard ≤ k → k < length planes → CanBeRelieved (get_or planes k no_plane) relief
  keeps bounds k m l =
      let u = length-drop hard planes in
      let at : hard + (k - hard) ≡ k = omega arith in
      let read = get_or-drop hard planes (k - hard) no_plane ∙ ap (λ j. get_or planes j no_plane) at in
      subst (λ plane. CanBeRelieved plane relief) read (bounds (k - hard) no_plane (omega arith))

  -- the half-plane that was read at a place
  module _ (k : ℕ) (plane : Plane) (l : k < length planes) (read : plane ≡ get_or planes k plane) where
    pub plane-read : plane ≡ get_or planes k no_plane
    plane-read = get_or_read planes k plane l read no_plane

    pub plane-keeps : KeepBounds hard relief planes → hard ≤ k → CanBeRelieved plane relief
    plane-keeps bounds m = subst (λ g. CanBeRelieved g relief) (sym plane-read) (keeps bounds k m l)

    pub plane-hard : k < hard → plane ≡ get_or (relieved_after hard relief planes) k no_plane
    plane-hard m = plane-read ∙ sym (get_or-hard k no_plane m)

    pub plane-soft : hard ≤ k → relieved_of plane relief ≡ get_or (relieved_after hard relief planes) k no_plane
    plane-soft m = ap (λ g. relieved_of g relief) plane-read ∙ sym (get_or-soft k no_plane m l)

    pub plane-same : (k < hard) ⊎ (relief ≡ 0) → plane ≡ get_or (relieved_after hard relief planes) k no_plane
    plane-same = ⊎_elim plane-hard (λ none. ⊎_elim plane-hard
        (λ m. sym (relieved_of-zero plane) ∙ ap (λ d. relieved_of plane d) (sym none) ∙ plane-soft m) (cases_lt k hard))

    pub plane-in : (p : Rational) → IsPoint p → IsIn plane p → IsIn (get_or (relieved_after hard relief planes) k no_plane) p
    plane-in p hp inside = relieved_after-in k p l hp (subst (λ g. IsIn g p) plane-read inside)

-- ---- bounds
-- a half-plane that can be relieved keeps all its bounds
pub relieved-fits : (plane : Plane) (relief : ℕ) → FitsPlane plane → CanBeRelieved plane relief → FitsPlane (relieved_of plane relief)
relieved-fits plane relief fits above = record { nonzero = fits.nonzero; normal = fits.normal; offset = (let size = fits.offset in omega (arith, ints)) }

-- what can be relieved can be relieved less
pub relieved-less : (plane : Plane) (d e : ℕ) → d ≤ e → CanBeRelieved plane e → CanBeRelieved plane d
relieved-less plane d e le above =
    let more : d * whole_length plane.n ≤ e * whole_length plane.n = mul-le-mul_right (whole_length plane.n) le in
    omega (arith, ints)

pub keep-less : (hard d e : ℕ) (planes : List Plane) → d ≤ e → KeepBounds hard e planes → KeepBounds hard d planes
keep-less hard d e planes le bounds = λ k x l. relieved-less (get_or (drop hard planes) k x) d e le (bounds k x l)

pub whole_length-le : (plane : Plane) → FitsPlane plane → whole_length plane.n ≤ 2 ^ 32
whole_length-le plane fits =
    ⊎_elim
    (λ above.
    let first = ceil_root_first (unsigned_abs (square plane.n)) (2 ^ 32) above in
    absurd (let small = fits.normal in omega (arith, ints)))
    (λ below. below)
    (cases_lt (2 ^ 32) (whole_length plane.n))

room-relieved : (plane : Plane) (d : ℕ) → HasReliefRoom plane → d < 2 ^ 18 → CanBeRelieved plane d
room-relieved plane d h small =
    let short = whole_length-le plane h.fits in
    let moved : d * whole_length plane.n ≤ 2 ^ 18 * 2 ^ 32 = mul-le-mul (let le : d ≤ 2 ^ 18 = omega arith in le) short in
    let size = h.room in
    omega (arith, ints)

-- half-planes with room can be relieved by each number below 2^18
pub keep-room : (hard relief : ℕ) (planes : List Plane) → relief < 2 ^ 18 → All HasReliefRoom planes → KeepBounds hard relief planes
keep-room hard relief planes small room = λ k e l. room-relieved (get_or (drop hard planes) k e) relief (All-drop HasReliefRoom hard planes room k e l) small

pub keep-pair : (hard relief : ℕ) (first second : Plane) → relief < 2 ^ 18 → HasReliefRoom first → HasReliefRoom second → KeepBounds hard relief (first ∷ second ∷ [])
keep-pair hard relief first second small h k = keep-room hard relief (first ∷ second ∷ []) small
    (All-cons HasReliefRoom first (second ∷ []) h (All-cons HasReliefRoom second [] k (λ i e l. absurd (omega arith))))
