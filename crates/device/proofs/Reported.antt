-- Reports by what they meet: flags above ERR + EOS, or a stream that is not live.
use mathlib.Core.Path.{◌≡◌}
use Rattle.std.specs.Prelude.{Option, None}
use Prim.Native.Nat.{ℕ, ◌<◌, ◌≤◌}
use borrow.Author.Tests.{lt-ltb, le-ltb}
use Rattle.model.specs.Device.{Stream}
use Rattle.model.specs.Replies.{refuse}
use Rattle.model.specs.Commands.{Surroundings}
use Rattle.model.specs.Reports.{on_finish, on_drained}
use Rattle.model.specs.Steps.{finish, drained, serve}

module _ (around : Surroundings) (n qt r flags ts : ℕ) (self : Option Stream) where
  pub bad_flags : 3 < flags → serve around n self (finish n qt r flags ts) ≡ refuse 6 self
  unfolding serve on_finish
  bad_flags h = rw (lt-ltb 3 flags h)

  pub no_stream : flags ≤ 3 → self ≡ None → serve around n self (finish n qt r flags ts) ≡ refuse 5 self
  unfolding serve on_finish
  no_stream h e = rw (le-ltb 3 flags h, e)

pub no_drain_lem : (around : Surroundings) (n : ℕ) (self : Option Stream) → self ≡ None → serve around n self (drained n) ≡ refuse 5 self
unfolding serve on_drained
no_drain_lem around n self e = rw e
