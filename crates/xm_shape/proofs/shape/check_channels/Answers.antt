use Rattle.std.proofs.Common.{refl}
use Rattle.xm_shape.proofs.Entries.{are_channels-known}
use Rattle.xm_shape.proofs.shape.check_channels.Goals as goal

pub returns-then-are_channels : goal.returns-then-are_channels
returns-then-are_channels c = rw (are_channels-known _ _ _ _ c.in_ok-channels.ensures c.are_channels.ensures, c.if-are_channels.true) refl

pub returns : goal.returns
returns c = rw (are_channels-known _ _ _ _ c.in_ok-channels.ensures c.are_channels.ensures, c.if-are_channels.false, c.in_ok-from_bytes.ensures) refl
