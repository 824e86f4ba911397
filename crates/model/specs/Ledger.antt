-- The ledger of pending answers. It is written by the numbers of document 01 and uses nothing of the device's own reading of frames, so that
-- a mistake there shows.
use Rattle.std.specs.Prelude.{ℕ, suc, ◌+◌, ◌≡◌, Bool, true, false, cond, not, ◌&&◌, ◌||◌, List, [], ◌∷◌, ◌++◌, map, eqb, leb}
use Rattle.std.specs.Prelude.{Option, None, Some}
use Rattle.laws.specs.Lists.{keep, how_many, to_list}
use Rattle.laws.specs.Ascending.{ascending}
use Rattle.field.specs.Field.{field}
use Rattle.model.specs.Device.{Stream, Buffer, queued_in}
use Rattle.model.specs.Answers.{Written}
use Rattle.model.specs.Steps.{Act, command, finish, drained, Event, answers_of, accepted}

-- all that the ledger notes of a step: its place in the list (document 01's step number), its arguments, whether its result is 0, whether it
-- was accepted
pub record Noted : Type 0 where
  pub number : ℕ
  pub act : Act
  pub is_zero : Bool
  pub accepted : Bool

-- the same, by its parts
abbrev pub noted : ℕ → Act → Bool → Bool → Noted
noted k a z acc = record { number = k; act = a; is_zero = z; accepted = acc }

-- what is pending: the answer to a buffer (queue type, resource, timestamp, as sent) or to a drain
pub data Awaited : Type 0 where
  to_buffer : (queue_type resource timestamp : ℕ) → Awaited
  to_drain : Awaited

-- a pending answer (document 01: debt): the number of the step that added it, its ticket, its stream, what it answers
pub record Pending : Type 0 where
  pub step_number : ℕ
  pub ticket : ℕ
  pub stream : ℕ
  pub awaited : Awaited

-- the pending answers (document 01: book)
abbrev pub Ledger : Type 0
Ledger = List Pending

-- the frame is of that type
abbrev pub is_type : ℕ → List ℕ → Bool
is_type ty f = eqb (field 4 f 0) ty

-- the stream number and the ticket of a step; 0 for a report, which has no ticket
abbrev pub step_stream : Act → ℕ
step_stream (command t f) = field 4 f 4
step_stream (finish n qt r flags ts) = n
step_stream (drained n) = n

abbrev pub step_ticket : Act → ℕ
step_ticket (command t f) = t
step_ticket (finish n qt r flags ts) = 0
step_ticket (drained n) = 0

-- An accepted 0x0105 adds the answer to its buffer, an accepted 0x0103 the answer to its drain.
unfoldable pub awaited_by : Act → Option Awaited
awaited_by (command t f) =
    cond (is_type 0x0105 f) (Some (to_buffer (field 4 f 8) (field 4 f 12) (field 8 f 16)))
    (cond (is_type 0x0103 f) (Some to_drain) None)
awaited_by (finish n qt r flags ts) = None
awaited_by (drained n) = None

-- one pending answer, if there is one to add
abbrev pub pending : ℕ → ℕ → ℕ → Option Awaited → List Pending
pending k t n None = []
pending k t n (Some w) = record { step_number = k; ticket = t; stream = n; awaited = w } ∷ []

-- what an accepted step adds
abbrev pub adds : ℕ → Act → List Pending
adds k a = pending k (step_ticket a) (step_stream a) (awaited_by a)

-- the answer to a buffer of that queue type
abbrev pub is_buffer_of : ℕ → Awaited → Bool
is_buffer_of qt (to_buffer q r ts) = eqb q qt
is_buffer_of qt to_drain = false

-- the answer to a drain
abbrev pub is_drain : Awaited → Bool
is_drain (to_buffer q r ts) = false
is_drain to_drain = true

-- its resource; 0 for a drain, which has none
abbrev pub resource_in : Awaited → ℕ
resource_in (to_buffer q r ts) = r
resource_in to_drain = 0

-- What a step completes (document 01: pays): of its stream an accepted finish the answer of its queue type and resource, and with EOS, 2 among its flags,
-- the drain too; a drained report the drain; 0x0107 its queue's, and for input the drain; 0x0102 all. Flags above 3 are never accepted.
unfoldable pub completes : Act → Awaited → Bool
completes (command t f) w = is_type 0x0102 f || (is_type 0x0107 f && (is_buffer_of (field 4 f 8) w || (eqb (field 4 f 8) 0x100 && is_drain w)))
completes (finish n qt r flags ts) w = (is_buffer_of qt w && eqb (resource_in w) r) || (leb 2 flags && is_drain w)
completes (drained n) w = is_drain w

-- it is of the step's stream, and the step completes it
abbrev pub completed_by : Act → Pending → Bool
completed_by a p = eqb p.stream (step_stream a) && completes a p.awaited

-- by ascending resource
abbrev pub by_number : List Pending → List Pending
by_number = ascending (λ (p : Pending). resource_in p.awaited)

-- a test of what is awaited
abbrev pub awaits : (Awaited → Bool) → Pending → Bool
awaits q p = q p.awaited

-- in the order of their answers: inputs, then outputs, each by ascending resource, then the drain
unfoldable pub in_order : List Pending → List Pending
in_order l = by_number (keep (awaits (is_buffer_of 0x100)) l) ++ (by_number (keep (awaits (is_buffer_of 0x101)) l) ++ keep (awaits is_drain) l)

-- An accepted step adds what it adds, and what it completes goes; all other steps, refused ones too, leave the ledger alone.
abbrev pub ledger_after : Noted → Ledger → Ledger
ledger_after s l = cond s.accepted (adds s.number s.act ++ keep (λ (p : Pending). not (completed_by s.act p)) l) l

-- what a step completes, in order
abbrev pub completed : Noted → Ledger → List Pending
completed s l = cond s.accepted (in_order (keep (completed_by s.act) l)) []

-- The step answers itself if it is a command with result 0 other than an accepted 0x0105 or 0x0103.
unfoldable pub own_tickets : Act → Bool → Bool → List ℕ
own_tickets (command t f) is_zero acc = cond (is_zero && not (acc && (is_type 0x0105 f || is_type 0x0103 f))) (t ∷ []) []
own_tickets (finish n qt r flags ts) is_zero acc = []
own_tickets (drained n) is_zero acc = []

-- the tickets of a step's answers, by position: one for each pending answer that it completes, then its own
abbrev pub expected_tickets : Noted → Ledger → List ℕ
expected_tickets s l = map (λ (p : Pending). p.ticket) (completed s l) ++ own_tickets s.act s.is_zero s.accepted

-- A list of steps

-- what the ledger notes of an event with a number
abbrev pub noted_of : ℕ → Event → Noted
noted_of k e = noted k e.step.act (eqb e.refusal 0) (accepted e)

-- the ledger after events of which the first has number k
abbrev pub ledger_from : ℕ → Ledger → List Event → Ledger
ledger_from k l [] = l
ledger_from k l (e ∷ es) = ledger_from (suc k) (ledger_after (noted_of k e) l) es

-- it starts empty, and steps are numbered from 0
abbrev pub ledger_of : List Event → Ledger
ledger_of es = ledger_from 0 [] es

-- the tickets of written answers
abbrev pub tickets : List Written → List ℕ
tickets = map (λ (w : Written). w.ticket)

-- every step writes exactly the answers that the ledger expects
abbrev pub AsExpected : ℕ → Ledger → List Event → Type 0
AsExpected k l [] = Unit {0}
AsExpected k l (e ∷ es) = (tickets (answers_of e) ≡ expected_tickets (noted_of k e) l) × AsExpected (suc k) (ledger_after (noted_of k e) l) es

-- the pending answers to which a step's answers went, by position
abbrev pub reached : List Written → List Pending → List Pending
reached [] ps = []
reached (w ∷ ws) [] = []
reached (w ∷ ws) (p ∷ ps) = p ∷ reached ws ps

-- added by the step with that number
abbrev pub of_step : ℕ → Pending → Bool
of_step k p = eqb p.step_number k

-- how many answers went to what step j added
abbrev pub answers_to : ℕ → ℕ → Ledger → List Event → ℕ
answers_to j k l [] = 0
answers_to j k l (e ∷ es) = how_many (of_step j) (reached (answers_of e) (completed (noted_of k e) l)) + answers_to j (suc k) (ledger_after (noted_of k e) l) es

-- What is outstanding (document 01: owed): pending and not yet completed. Step numbers are left out.

-- a ticket and what it awaits
pub record Outstanding : Type 0 where
  pub ticket : ℕ
  pub awaited : Awaited

-- the same, by its parts
abbrev pub outstanding : ℕ → Awaited → Outstanding
outstanding t w = record { ticket = t; awaited = w }

-- to a stream, by the ledger
abbrev pub outstanding_to : ℕ → Ledger → List Outstanding
outstanding_to n l = map (λ (p : Pending). outstanding p.ticket p.awaited) (keep (λ (p : Pending). eqb p.stream n) l)

-- by the stream's record: its Queued buffers and its drain
abbrev pub outstanding_buffers : ℕ → List Buffer → List Outstanding
outstanding_buffers qt = map (λ (i : Buffer). outstanding i.ticket (to_buffer qt i.resource i.timestamp))

-- its drain, if one is pending
abbrev pub outstanding_drain : Option ℕ → List Outstanding
outstanding_drain d = map (λ (t : ℕ). outstanding t to_drain) (to_list d)

-- both, or nothing where there is no record
abbrev pub outstanding_in : Option Stream → List Outstanding
outstanding_in None = []
outstanding_in (Some b) = outstanding_buffers 0x100 (queued_in b.inputs.slots) ++ (outstanding_buffers 0x101 (queued_in b.outputs.slots) ++ outstanding_drain b.draining)
