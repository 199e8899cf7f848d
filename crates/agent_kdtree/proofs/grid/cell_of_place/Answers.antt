use Rattle.std.proofs.Common.{◌∙◌, ℕ, sym, ap}
use Rattle.std.proofs.lemmas.List.{get_or-map}
use Rattle.crowd_data.specs.Neighbours.{place_at}
use Rattle.agent_kdtree.specs.Cells.{cell_of}
use Rattle.agent_kdtree.specs.Keys.{low_half}
use Rattle.agent_kdtree.proofs.grid.cell_of_place.Goals as goal

pub returns-clause-value : goal.returns-clause-value
returns-clause-value c =
    let keys = c.args.keys.now in
    c.cell_of_key.ensures.value
    ∙ c.requires.cells c.args.at 0 c.requires.exists
    ∙ ap (λ (k : ℕ). cell_of c.args.mesh.now (place_at c.args.places.now k).pos) (sym (get_or-map low_half keys c.args.at 0 0 c.requires.exists))
