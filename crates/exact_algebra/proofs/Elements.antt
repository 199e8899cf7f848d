-- What holds of each element of a list holds of one of them, and where the list is joined, mapped or filtered of the parts.
use Rattle.std.proofs.Common.{◌≡◌, ℕ, List, [], ◌∷◌, ◌++◌, map, Bool, true, false, cond, refl, subst, Some}
use Rattle.std.specs.Prelude.{slice_get}
use Rattle.std.specs.List.{All, filter}
use Rattle.std.proofs.lemmas.List.Elements.{All-cons, All-head, All-nil, All-tail}
use Rattle.std.proofs.lemmas.Option.{get_or_from_slice_get, slice_get_within}

pub all_at : {X : Type 0} (P : X → Type 0) (xs : List X) (k : ℕ) (x : X) → All P xs → slice_get xs k ≡ Some x → P x
all_at P xs k x all e = subst P (get_or_from_slice_get xs k x x e) (all k x (slice_get_within xs k x e))

pub front_of : {X : Type 0} (P : X → Type 0) (xs ys : List X) → All P (xs ++ ys) → All P xs
front_of P [] ys all = All-nil P
front_of P (x ∷ xs) ys all = All-cons P x xs (All-head P x (xs ++ ys) all) (front_of P xs ys (All-tail P x (xs ++ ys) all))

pub back_of : {X : Type 0} (P : X → Type 0) (xs ys : List X) → All P (xs ++ ys) → All P ys
back_of P [] ys all = all
back_of P (x ∷ xs) ys all = back_of P xs ys (All-tail P x (xs ++ ys) all)

pub before_map : {X Y : Type 0} (P : Y → Type 0) (f : X → Y) (xs : List X) → All P (map f xs) → All (λ x. P (f x)) xs
before_map P f [] all = All-nil (λ x. P (f x))
before_map P f (x ∷ xs) all = All-cons (λ x. P (f x)) x xs (All-head P (f x) (map f xs) all) (before_map P f xs (All-tail P (f x) (map f xs) all))

-- what holds of those that pass a test holds of each that passes it
pub before_filter : {X : Type 0} (test : X → Bool) (P : X → Type 0) (xs : List X) → All P (filter test xs) → All (λ x. test x ≡ true → P x) xs
before_filter test P [] all = All-nil (λ x. test x ≡ true → P x)
before_filter {X} test P (x ∷ xs) all = by (test x) refl all (λ rest. before_filter test P xs rest)
  where
    by : (b : Bool) → test x ≡ b → All P (cond b (x ∷ filter test xs) (filter test xs)) → (All P (filter test xs) → All (λ x. test x ≡ true → P x) xs) → All (λ x. test x ≡ true → P x) (x ∷ xs)
    by true e all more = All-cons (λ x. test x ≡ true → P x) x xs (λ t. All-head P x (filter test xs) all) (more (All-tail P x (filter test xs) all))
    by false e all more = All-cons (λ x. test x ≡ true → P x) x xs (λ t. cc (e, t)) (more all)
