-- What a command gives, by what the type and the length of its frame say.
use mathlib.Core.Path.{◌≡◌, ap, ◌∙◌}
use mathlib.Core.Bool.{true, false}
use Rattle.std.specs.Prelude.{Option, None, Some}
use mathlib.Core.List.{List, [], ◌∷◌}
use Prim.Native.Nat.{ℕ}
use Rattle.laws.specs.InOrder.{by_tests}
use Rattle.laws.proofs.InOrder.{tests_hit, tests_miss}
use Rattle.model.specs.Device.{Stream, new_stream}
use Rattle.model.specs.Frames.{LiveCommand, Command, create, live, coded_format}
use Rattle.model.specs.Answers.{ErrorCode, out_of_memory, invalid_stream, invalid_parameter, success}
use Rattle.model.specs.Replies.{reply, Request, fail}
use Rattle.model.specs.Commands.{Surroundings, succeed, on_create, on_live, on_stream}
use Rattle.model.specs.Steps.{command, serve}
use Rattle.answer.specs.Answer.{answer_to}
use Rattle.frame.specs.Frame.{good_creation}
use Rattle.frame.specs.Meant.{wrong, right, verdict_for}
use Rattle.frame.proofs.Checks.{wrong_frame, right_frame, creation_bad, creation_good_lem}
use Rattle.stream.specs.Replied.{request_to}

module _ (f : List ℕ) (around : Surroundings) (n t : ℕ) where
  abbrev asks : Option Stream → Request
  asks self = record { stream = n; ticket = t; frame = f; self = self }

  -- an unknown type, or a length that its command cannot have
  pub unfit : (e : ErrorCode) (self : Option Stream) → verdict_for f ≡ wrong e → serve around n self (command t f) ≡ fail (asks self) e
  unfolding serve
  unfit e self h = wrong_frame around (asks self) e h

  -- the command k
  fit : (k : Command) (self : Option Stream) → verdict_for f ≡ right k → serve around n self (command t f) ≡ on_stream around (asks self) k self
  unfolding serve
  fit k self h = right_frame around (asks self) k h

  -- a command to a live stream, and to one that is not
  pub to_live_lem : (k : LiveCommand) (b : Stream) → verdict_for f ≡ right (live k) → serve around n (Some b) (command t f) ≡ on_live k (request_to n t f b) b
  to_live_lem k b h = fit (live k) (Some b) h

  pub not_live : (k : LiveCommand) (self : Option Stream) → verdict_for f ≡ right (live k) → self ≡ None → serve around n self (command t f) ≡ fail (asks self) invalid_stream
  not_live k self h new = fit (live k) self h ∙ ap (on_stream around (asks self) (live k)) new

  -- a creation for a number that may not be taken
  module _ (self : Option Stream) (h : verdict_for f ≡ right create) where
    pub create_unusable : around.unusable ≡ true → serve around n self (command t f) ≡ fail (asks self) invalid_stream
    create_unusable taken = fit create self h ∙ rw taken

    -- and for one that may: a bad frame, no place, or a new stream
    module _ (usable : around.unusable ≡ false) where
      creation : serve around n self (command t f) ≡ on_create around (asks self)
      creation = fit create self h ∙ rw usable

      pub create_bad : good_creation f ≡ false → serve around n self (command t f) ≡ fail (asks self) invalid_parameter
      create_bad bad = creation ∙ creation_bad around (asks self) bad

      module _ (good : good_creation f ≡ true) where
        pub create_full : around.full ≡ true → serve around n self (command t f) ≡ fail (asks self) out_of_memory
        create_full full = creation ∙ creation_good_lem around (asks self) good ∙ tests_hit (fail (asks self)) around.full out_of_memory _ full

        pub create_done : around.full ≡ false → serve around n self (command t f) ≡ reply (answer_to t n success ∷ []) (Some (new_stream (coded_format f)))
        unfolding by_tests
        create_done room =
            creation ∙ creation_good_lem around (asks self) good ∙ tests_miss (fail (asks self)) around.full out_of_memory (succeed (asks self) (Some (new_stream (coded_format f)))) room
