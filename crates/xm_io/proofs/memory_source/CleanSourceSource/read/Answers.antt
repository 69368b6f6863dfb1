use Rattle.std.proofs.Common.{arith}
use Rattle.xm_io.proofs.Streams.{gives_front, at_end}
use Rattle.xm_io.proofs.memory_source.CleanSourceSource.read.Goals as goal

pub returns-clause-bytes : goal.returns-clause-bytes
returns-clause-bytes c =
    let copied = c.copy_front-count.ensures in (
      gives_front c.self.inside.bytes.items _ _ _ _ c.self.inside.at c.copy_front-count.result c.self.view_is c.rest_of-left.ensures.rest (omega arith) copied.copied,
      λ none some. at_end c.self.inside.bytes.items _ _ c.self.inside.at _ c.copy_front-count.result c.rest_of-left.ensures.rest copied.count (omega arith) none (omega arith),
    )
