-- Which refusal numbers a step can have: only the listed ones, and in a list from a fresh table neither 1 nor 2.
use mathlib.Core.Path.{◌≡◌, refl, sym, ap, ◌∙◌, subst}
use mathlib.Core.Bool.{Bool, true, false}
use Rattle.std.specs.Prelude.{Option}
use mathlib.Core.List.{List, [], ◌∷◌}
use Prim.Native.Nat.{ℕ}
use lib.ListN.{length, take}
use lib.Dec.{eqb, ltb}
use Rattle.laws.specs.Lists.{all_of}
use Rattle.laws.proofs.Tests.{never, both}
use Rattle.laws.proofs.Lists.{decide, cond_elim}
use Rattle.laws.proofs.InOrder.{tests_all}
use Rattle.model.specs.Numbers.{table_words, answer_room, header_bytes}
use Rattle.model.specs.Device.{QueueType, Stream, Device, fresh, record_of}
use Rattle.model.specs.Frames.{QueueCommand, create_resource, queue_resource, destroy_all, clear, get_parameters, set_parameters, LiveCommand, stream_id}
use Rattle.model.specs.Replies.{Reply, Request, fail}
use Rattle.model.specs.Commands.{Surroundings, on_create, on_destroy, on_drain, on_create_resource, on_queue, on_destroy_all, on_clear, on_get, on_set, on_queue_of, on_live, on_command}
use Rattle.model.specs.Steps.{Act, command, finish, drained, Step, stream_of, serve, DeviceReply, around, perform_of, perform, host_refusal, step_on, event_of, events_of}
use Rattle.model.specs.Tables.{Layout, Lawful, valid, effect}
use Rattle.model.specs.Promises.{listed, OnlyListed, table_good, NoTableRefusal}
use Rattle.model.proofs.Origins.{live_cases, command_cases, finish_cases, drained_cases}
use Rattle.model.proofs.Seen.{step_runs, step_refused, room_refusal}
use Rattle.model.proofs.Tables.{same_run}

-- a command with a header is refused by no number
abbrev NotRefused : Reply → Type 0
NotRefused v = v.refusal ≡ 0

queue_answers : (k : QueueCommand) (c : Request) (b : Stream) (q : QueueType) → NotRefused (on_queue_of k c b q)
unfolding on_create_resource on_queue on_destroy_all on_clear on_get on_set
queue_answers create_resource c b q = tests_all NotRefused (fail c) _ (λ e. refl) refl
queue_answers queue_resource c b q = tests_all NotRefused (fail c) _ (λ e. refl) refl
queue_answers destroy_all c b q = tests_all NotRefused (fail c) _ (λ e. refl) refl
queue_answers clear c b q = refl
queue_answers get_parameters c b q = refl
queue_answers set_parameters c b q = tests_all NotRefused (fail c) _ (λ e. refl) refl

live_answers : (k : LiveCommand) (c : Request) (b : Stream) → NotRefused (on_live k c b)
unfolding on_destroy on_drain
live_answers k c b = live_cases NotRefused c b (λ e. refl) refl (tests_all NotRefused (fail c) _ (λ e. refl) refl) (λ j q. queue_answers j c b q) k

pub command_answers : (around : Surroundings) (c : Request) → NotRefused (on_command around c)
unfolding on_create
command_answers around c =
    command_cases NotRefused around c (λ e. refl) (λ e. tests_all NotRefused (fail c) _ (λ e. refl) refl) (λ k b e. live_answers k c b)

-- what holds of 0, of 4 to a command, of 5 and 6 to a finish and of 5 to a drained report holds of every step's own refusal
module _ (Q : Act → ℕ → Type 0) (zero : (a : Act) → Q a 0) (four : (t : ℕ) (f : List ℕ) → Q (command t f) 4)
    (five : (n qt r flags ts : ℕ) → Q (finish n qt r flags ts) 5) (six : (n qt r flags ts : ℕ) → Q (finish n qt r flags ts) 6) (late : (n : ℕ) → Q (drained n) 5) where
  pub own_refusals : (d : Device) (a : Act) → Q a (perform d a).refusal
  unfolding stream_of serve
  own_refusals d (command t f) =
      cond_elim (λ (o : Option ℕ). Q (command t f) (perform_of d (command t f) o).refusal) (ltb (length f) header_bytes) (λ _. four t f)
      (λ _. subst (Q (command t f)) (sym (command_answers (around d (stream_id f)) (record { stream = stream_id f; ticket = t; frame = f; self = record_of (stream_id f) d.places }))) (zero (command t f)))
  own_refusals d (finish n qt r flags ts) =
      finish_cases (λ (v : Reply). Q (finish n qt r flags ts) v.refusal) n qt r flags ts (record_of n d.places)
      (five n qt r flags ts) (six n qt r flags ts) (λ b q i h. zero (finish n qt r flags ts))
  own_refusals d (drained n) = drained_cases (λ (v : Reply). Q (drained n) v.refusal) n (record_of n d.places) (late n) (λ b t h. zero (drained n))

abbrev Listed : Act → ℕ → Type 0
Listed a k = listed a k ≡ true

host_listed : (words room : ℕ) (v : Bool) (a : Act) → Listed a (host_refusal words room v)
unfolding host_refusal
host_listed words room v a =
    cond_elim (Listed a) (ltb words table_words) (λ _. of a 1 refl refl refl) (λ _.
    cond_elim (Listed a) (ltb room answer_room) (λ _. of a 3 refl refl refl) (λ _.
    cond_elim (Listed a) v (λ _. of a 0 refl refl refl) (λ _. of a 2 refl refl refl)))
  where
    of : (a : Act) (k : ℕ) → Listed (command 0 []) k → Listed (finish 0 0 0 0 0) k → Listed (drained 0) k → Listed a k
    of (command t f) k x y z = x
    of (finish n qt r flags ts) k x y z = y
    of (drained n) k x y z = z

pub only_listed_lem : (L : Layout) → OnlyListed L
unfolding effect
only_listed_lem L t a room =
    let k = host_refusal (length t) (length room) (valid L t) in
    decide (eqb k 0)
    (λ e. simp e (own_refusals Listed zero (λ t f. refl) (λ n qt r flags ts. refl) (λ n qt r flags ts. refl) (λ n. refl) (L.decode (take table_words t)) a))
    (λ e. simp e (host_listed (length t) (length room) (valid L t) a))
  where
    zero : (a : Act) → Listed a 0
    zero (command t f) = refl
    zero (finish n qt r flags ts) = refl
    zero (drained n) = refl

-- In a list

room_listed : (room : ℕ) → eqb (host_refusal table_words room true) 0 ≡ false → host_refusal table_words room true ≡ 3
unfolding host_refusal
room_listed room e = decide (ltb room answer_room) (λ r. simp r) (λ r. never (simp r at e))

step_table : (d : Device) (s : Step) → table_good (event_of s (step_on d s)) ≡ true
step_table d s =
    decide (eqb (room_refusal s) 0)
    (λ e. ap (λ (o : DeviceReply). table_good (event_of s o)) (step_runs d s e)
    ∙ own_refusals (λ a k. table_good (record { step = s; refusal = k; written = 0; bytes = [] }) ≡ true) (λ a. refl) (λ t f. refl) (λ n qt r flags ts. refl) (λ n qt r flags ts. refl) (λ n. refl) d s.act)
    (λ e. ap (λ (o : DeviceReply). table_good (event_of s o)) (step_refused d s e)
    ∙ ap (λ (k : ℕ). table_good (record { step = s; refusal = k; written = 0; bytes = [] })) (room_listed (length s.room) e))

log_table : (d : Device) (ss : List Step) → all_of table_good (events_of d ss) ≡ true
log_table d [] = refl
log_table d (s ∷ ss) = both (step_table d s) (log_table (step_on d s).device ss)

pub no_table_refusal_lem : (L : Layout) → Lawful L → NoTableRefusal L
no_table_refusal_lem L law t ss h m = ap (λ r. all_of table_good r.events) (same_run L law t h ss m) ∙ log_table fresh ss
