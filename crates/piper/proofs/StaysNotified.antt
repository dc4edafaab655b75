-- Who was woken after all that was stored stays so while nothing more is stored.
use Rattle.std.proofs.Common.{◌≡◌}
use Rattle.piper.specs.declared.handles.Writer.{Writer}
use Rattle.piper.specs.Handles.{NotifiesReader}

pub reader_stays : (a b : Writer) → b.side.slots ≡ a.side.slots → b.side.end.sent ≡ a.side.end.sent → b.side.end.shut ≡ a.side.end.shut → NotifiesReader a → NotifiesReader b
reader_stays a b registrations sent shut woke = rw (sent, shut, registrations) woke
