-- What the definitions compute is what the papers say.
use Rattle.spec.specs.Computed.{Computed}
use Rattle.runs.specs.Steps.{enabled-tests}
use Rattle.runs.specs.Closure.{strict-is, weak-is}
use Rattle.runs.specs.Levels.{levels-longest}

pub computed : Computed
computed = record { enabled = enabled-tests; strict = strict-is; weak = weak-is; longest = levels-longest }
