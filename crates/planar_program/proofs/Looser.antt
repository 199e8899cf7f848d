-- What a greater relief leaves.
use Rattle.std.proofs.Common.{ℕ, ◌<◌, ◌≤◌, List, length, get_or, take, ◌∙◌, subst, sym, ⊎_elim, arith}
use Rattle.std.proofs.lemmas.List.{get_or-take, get_or_default, length-take-le}
use Rattle.std.proofs.lemmas.Bool.{cases_lt}
use Rattle.fixed_vec.specs.HalfPlane.{Plane}
use Rattle.fixed_vec.specs.Point.{Rational, IsIn}
use Rattle.fixed_vec.specs.Meeting.{Meeting, relieved_after}
use Rattle.planar_line.specs.Relief.{no_plane}
use Rattle.planar_line.proofs.Reliefs.{relieved_more, get_or-hard, get_or-soft, length-relieved_after}

module _ (hard : ℕ) (planes : List Plane) (le : hard ≤ length planes) where
  -- a point of the meeting stays one at each greater relief
  pub meeting-looser : (d e : ℕ) (p : Rational) → d ≤ e → Meeting (relieved_after hard d planes) p → Meeting (relieved_after hard e planes) p
  meeting-looser d e p more m = record {
    point = m.point;
    inside = λ k x l.
        let long = length-relieved_after hard e planes le in
        let short = length-relieved_after hard d planes le in
        let here = m.inside k no_plane (omega arith) in
        ⊎_elim
        (λ a. subst (λ g. IsIn g p) (get_or-hard hard d planes le k no_plane a ∙ sym (get_or-hard hard e planes le k x a)) here)
        (λ a.
        let in_list : k < length planes = omega arith in
        let inside = relieved_more (get_or planes k no_plane) d e p more m.point (subst (λ g. IsIn g p) (get_or-soft hard d planes le k no_plane a in_list) here) in
        subst (λ g. IsIn g p) (sym (get_or-soft hard e planes le k x a in_list)) inside)
        (cases_lt k hard);
  }

  -- and it is a point of the hard half-planes
  pub meeting-hard : (d : ℕ) (p : Rational) → Meeting (relieved_after hard d planes) p → Meeting (take hard planes) p
  meeting-hard d p m = record {
    point = m.point;
    inside = λ k x l.
        let long = length-relieved_after hard d planes le in
        let short = length-take-le hard planes le in
        let few : k < hard = omega arith in
        let read = get_or-hard hard d planes le k no_plane few ∙ get_or_default planes k no_plane x (omega arith) ∙ sym (get_or-take hard planes k x few) in
        subst (λ g. IsIn g p) read (m.inside k no_plane (omega arith));
  }
