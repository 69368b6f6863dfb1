-- What a document is.
use Rattle.std.specs.Prelude.{List, Option}
use Rattle.serde_json.specs.Data.{Data}
use Rattle.xm_model.specs.Naming.{Allowed, Naming}
use Rattle.xm_model.specs.Net.{Network}

-- the net, the names of what it numbers, the only colours that channels may have, and what other readers look at
pub record Doc : Type 0 where
  pub net : Network
  pub names : Naming
  pub allow : List Allowed
  pub tape : Option Data
  pub proof : Option Data
