use Rattle.std.proofs.Common.{Ok, ap}
use mathlib.Core.Path.{◌≡◌, sym, ◌∙◌}
use Rattle.opening.specs.Opening.{opened_of}
use Rattle.load.specs.Sources.{file_of, index_of}
use Rattle.load.proofs.OpenLaws.{accepted_opens, refused_opens}
use Rattle.load.proofs.open.Goals as goal
use Rattle.load.proofs.open.Goals.{After-open_within}

-- what the opening answers, by the table's name
by_name : (c : After-open_within)
    → c.open_within.result ≡ opened_of (file_of c.args.sources.now c.args.table) (index_of c.args.sources.now c.args.table) c.args.most
by_name c = rw (← c.file.ensures, ← c.index.ensures) c.open_within.ensures

pub returns-in-Ok : goal.returns-in-Ok
returns-in-Ok c =
    accepted_opens c.args.sources.now c.args.most c.args.table _ (sym (by_name (goal.at.returns-in-Ok c).After-open_within) ∙ c.in-Ok.is)

pub returns-in-Err : goal.returns-in-Err
returns-in-Err c =
    refused_opens c.args.sources.now c.args.most c.args.table _ (sym (by_name (goal.at.returns-in-Err c).After-open_within) ∙ c.in-Err.is)
