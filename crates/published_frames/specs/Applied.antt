-- What a publication does to the bodies, the number and the log of a copy.
use Rattle.std.specs.Prelude.{ℕ, ◌==◌, if◌then◌else◌, List, length}
use Rattle.crowd_data.specs.declared.frame.Body.{Body}
use Rattle.published_frames.specs.declared.log_prefix.LogPrefix.{LogPrefix}
use Rattle.published_frames.specs.declared.shown.Publication.{Publication}

abbrev pub applied_to : List Body × ℕ × LogPrefix → Publication → List Body × ℕ × LogPrefix
applied_to copy publication =
    if length copy.0 == length publication.moves.frame.bodies.items
    then (publication.moves.frame.bodies.items, publication.moves.frame.number, publication.prefix)
    else copy
