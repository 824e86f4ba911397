-- A creation is answered 'out of memory' only where every place holds a stream.
use mathlib.Core.Path.{◌≡◌, refl, sym, ap, ◌∙◌}
use mathlib.Core.Bool.{Bool, true, false, ◌&&◌, and-false}
use Rattle.std.specs.Prelude.{Option}
use mathlib.Core.List.{List, [], ◌∷◌}
use Prim.Native.Nat.{ℕ}
use native.Mathlib.Omega.{arith}
use lib.ListN.{length}
use lib.Dec.{eqb}
use Rattle.laws.specs.Lists.{how_many}
use Rattle.laws.proofs.Tests.{never}
use Rattle.laws.proofs.Lists.{decide, cond_elim}
use Rattle.field.specs.Field.{field, little_endian}
use Rattle.model.specs.Device.{Stream, Place, vacant, occupied, record_of, no_place}
use Rattle.model.specs.Frames.{Command, create, live, rule_of, wrong_length, command_type}
use Rattle.model.specs.Answers.{invalid_operation, invalid_parameter, response_bytes, read_from}
use Rattle.model.specs.Replies.{Reply, Request, fail}
use Rattle.model.specs.Commands.{Surroundings, with_full, on_create, on_stream, on_rule, on_command}
use Rattle.model.specs.Steps.{Act, command, finish, drained, serve, DeviceReply, around, event_of, is_creation, out_of_memory_at}
use Rattle.model.specs.Promises.{is_live, FullAtEight}
use Rattle.model.proofs.Rules.{creates, by_creation}
use Rattle.model.proofs.WellFormed.{well_places}
use Rattle.model.proofs.Origins.{create_cases, step_cases}
use Rattle.model.proofs.Seen.{not_full, tells_full}

abbrev Quiet : Reply → Type 0
Quiet v = tells_full v ≡ false

-- no other error says so, and where a place is vacant a creation does not
create_quiet : (around : Surroundings) (c : Request) → Quiet (on_create (not_full around) c)
unfolding read_from response_bytes little_endian field
create_quiet around c = create_cases Quiet (not_full around) c refl (λ e. never (sym e)) refl

abbrev QuietLine : Bool → Reply → Type 0
QuietLine creation v = (creation && tells_full v) ≡ false

stream_quiet : (around : Surroundings) (c : Request) (x : Command) (self : Option Stream) → QuietLine (creates x) (on_stream (not_full around) c x self)
unfolding read_from response_bytes little_endian field
stream_quiet around c create self = cond_elim Quiet around.unusable (λ _. refl) (λ _. create_quiet around c)
stream_quiet around c (live k) self = refl

length_quiet : (c : Request) → Quiet (fail c invalid_parameter)
unfolding read_from response_bytes little_endian field
length_quiet c = refl

unknown_quiet : (c : Request) → Quiet (fail c invalid_operation)
unfolding read_from response_bytes little_endian field
unknown_quiet c = refl

quiet_line : (b : Bool) (v : Reply) → Quiet v → QuietLine b v
quiet_line b v q = ap (λ (x : Bool). b && x) q ∙ and-false b

command_quiet : (around : Surroundings) (c : Request) (ty : ℕ) → QuietLine (eqb ty 0x0101) (on_rule (not_full around) c (rule_of ty))
command_quiet around c =
    by_creation (λ b l. QuietLine b (on_rule (not_full around) c l))
    (λ l. cond_elim (QuietLine (creates l.command)) (wrong_length l.length_rule (length c.frame))
    (λ _. quiet_line (creates l.command) (fail c invalid_parameter) (length_quiet c)) (λ _. stream_quiet around c l.command c.self))
    (λ b. quiet_line b (fail c invalid_operation) (unknown_quiet c))

act_quiet : (around : Surroundings) (n : ℕ) (self : Option Stream) (a : Act) → (is_creation a && tells_full (serve (not_full around) n self a)) ≡ false
unfolding serve on_command
act_quiet around n self (command t f) = command_quiet around (record { stream = n; ticket = t; frame = f; self = self }) (command_type f)
act_quiet around n self (finish m qt r flags ts) = refl
act_quiet around n self (drained m) = refl

-- so a step that says so found no place

all_live : (ps : List Place) → no_place ps ≡ true → how_many is_live ps ≡ length ps
all_live [] h = refl
all_live (vacant ∷ ps) h = never (sym h)
all_live (occupied n b ∷ ps) h = omega (arith, all_live ps h)

pub full_at_eight : FullAtEight
unfolding out_of_memory_at read_from
full_at_eight d s h =
    step_cases (λ (o : DeviceReply). out_of_memory_at (event_of s o) ≡ true → how_many is_live d.places ≡ 8) d s
    (λ k _ e. never (sym e ∙ and-false (is_creation s.act)))
    (λ n _ e. let self = record_of n d.places in
    decide (no_place d.places) (λ f. all_live d.places f ∙ (well_places d h).size)
    (λ f. never (sym e ∙ ap (λ (b : Bool). is_creation s.act && tells_full (serve (with_full b (around d n)) n self s.act)) f ∙ act_quiet (around d n) n self s.act)))
