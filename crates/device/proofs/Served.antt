-- What serving a step comes to on the words of a device: the words stay, or one block of them is changed.
use mathlib.Core.Path.{◌≡◌, refl, sym, ap, ◌∙◌, subst}
use mathlib.Core.Bool.{Bool, true, false}
use Rattle.std.specs.Prelude.{Option, None, Some, Result}
use mathlib.Core.List.{List, [], ◌∷◌}
use Prim.Native.Nat.{ℕ, ◌+◌, ◌*◌, ◌-◌, ◌%◌, ◌^◌, ◌<◌, ◌≤◌}
use native.Mathlib.Omega.{arith}
use native.Mathlib.Nat.{add-sub_cancel_left}
use lib.ListN.{length, set, take, length-set}
use lib.Seq.{get_or-set_same}
use borrow.Author.Tests.{le-ltb}
use Rattle.laws.specs.Parts.{part, with_part}
use Rattle.laws.specs.Lists.{all_of}
use Rattle.laws.specs.Stores.{Wrote}
use Rattle.laws.proofs.Tests.{never, both, and_left, and_right}
use Rattle.laws.proofs.Lists.{all_get_d, all_set}
use Rattle.laws.proofs.Stores.{wrote_none}
use Rattle.model.specs.Numbers.{stream_places, stream_numbers}
use Rattle.model.specs.Device.{Stream, Place, vacant, occupied, Device, record_of, no_place, place, pending_at, spend, put_back}
use Rattle.model.specs.Answers.{ErrorCode, code, success, failure, response_type}
use Rattle.model.specs.Replies.{Reply, refuse, reply, Request, fail}
use Rattle.model.specs.Commands.{Surroundings}
use Rattle.model.specs.Steps.{Act, command, around, serve}
use Rattle.model.specs.WellFormed.{good_stream, good_place, u32, spent_in}
use Rattle.model.proofs.Spent.{spent_below}
use Rattle.model.proofs.Seen.{NotAgain}
use Rattle.model.proofs.WellFormed.{GoodPlaces, well_places, well_spent, not_again_lem}
use Rattle.model.proofs.Sizes.{Sixteen, keeps_sixteen}
use Rattle.model.proofs.Unchanged.{put_back_same}
use Rattle.model.proofs.Refusals.{command_answers}
use Rattle.table.specs.Spent.{spent_size, spent_words, decode_spent}
use Rattle.table.specs.Figures.{total_at, figures_size, place_mark, figure_words}
use Rattle.table.specs.Blocks.{place_size, place_words, blocks, blocks_size, encode, with_places, with_spent}
use Rattle.table.specs.Search.{find_stream, find_vacant, has_all_slots}
use Rattle.table.proofs.Theorems.{good_sized, well_eight, well_sized, well_numbers}
use Rattle.table.proofs.Bits.{decode_spent_lem}
use Rattle.table.proofs.Records.{sized_queue, queue_sized, blocks_front, spent_part, spent_lent, block_part, block_lent, unsettled_read, figures_lent}
use Rattle.table.proofs.Bridge.{LiveAt, stream_found, stream_missing, stream_put, VacantAt, vacant_found, vacant_missing, vacant_put}
use Rattle.protocol.specs.declared.codes.ErrorCode.{ErrorCode as Code}
use Rattle.protocol.specs.Codes.{error_meant}
use Rattle.frame.specs.Meant.{right, verdict_for}
use Rattle.model.specs.Frames.{LiveCommand, live}
use Rattle.model.specs.Commands.{on_live}
use Rattle.stream.specs.declared.Asked.{Asked}
use Rattle.laws.proofs.Parts.{part_back}
use Rattle.device.proofs.Known.{to_live_lem}
use Rattle.answer.specs.Answer.{answer_to, plain_bytes}
use Rattle.answer.proofs.Laws.{wrote_plain}
use Rattle.stream.specs.Replied.{BlockOf, LiveBlock, request_to, told, Replied, Failed, Tried}
use Rattle.completion.specs.Done.{Done}
use Rattle.device.specs.Served.{Encodes, Unsettled, reply_of, Served, Erred}

-- the place of a record whose queues have their slots, and its mark
place_sized : (n : ℕ) (r : Option Stream) → Sixteen r → has_all_slots (place n r) ≡ true
place_sized n None h = refl
place_sized n (Some b) h = queue_sized n b h

mark_word_lem : (n : ℕ) (r : Option Stream) → n < stream_numbers → place_mark (place n r) < 2 ^ 32
mark_word_lem n None h = omega arith
mark_word_lem n (Some b) h = omega (arith, h)

-- the figures are settled: the block is read, and what stands behind the blocks is lent
module _ {words : List ℕ} (d : Device) (k : ℕ) (p : Place) (k8 : k < stream_places) (u : Unsettled words d k p) where
  abbrev new_places : List Place
  new_places = set d.places k p

  new_sizes : all_of has_all_slots new_places ≡ true
  new_sizes = all_set has_all_slots d.places k p u.sized u.sizes

  block_is : part (place_size * k) (place_size * k + place_size - place_size * k) words ≡ place_words p
  block_is =
      unsettled_read d new_places k words new_sizes (length-set d.places k p ∙ u.eight) k8 u.held
      ∙ ap place_words (get_or-set_same d.places k p vacant (omega (arith, u.eight)))

  pub settled : {ys : List ℕ} {mark pending : ℕ} → ((q : Place) → part (place_size * k) (place_size * k + place_size - place_size * k) words ≡ place_words q → mark ≡ place_mark q % 2 ^ 32)
      → ((q : Place) → has_all_slots q ≡ true → part (place_size * k) (place_size * k + place_size - place_size * k) words ≡ place_words q → pending ≡ pending_at q)
      → ((ps : List Place) (q : Place) → length ps ≡ stream_places → all_of has_all_slots (set ps k q) ≡ true → part total_at figures_size words ≡ figure_words ps
      → mark ≡ place_mark q → pending ≡ pending_at q → ys ≡ figure_words (set ps k q))
      → with_part total_at figures_size words ys ≡ encode (with_places new_places d)
  settled {ys} {mark} marks counts puts =
      let marked : mark ≡ place_mark p = omega (arith, marks p block_is, u.mark_fits) in
      figures_lent d new_places words ys new_sizes (length-set d.places k p ∙ u.eight) u.eight u.held
      (λ e. puts d.places p u.eight new_sizes e marked (counts p u.sized block_is))

module _ {words : List ℕ} {d : Device} (h : Encodes words d) where
  good_places_lem : GoodPlaces d.places
  good_places_lem = well_places d h.good

  sizes : all_of has_all_slots d.places ≡ true
  sizes = well_sized d h.good

  eight : length d.places ≡ 8
  eight = well_eight d h.good

  -- the blocks are looked at
  pub looked : {A : Type 0} (P : List Place → A) (r : A) → ((ps : List Place) → all_of has_all_slots ps ≡ true → take blocks_size words ≡ blocks ps → r ≡ P ps) → r ≡ P d.places
  looked P r look = look d.places sizes (ap (take blocks_size) h.held ∙ blocks_front d sizes eight)

  -- and the spent numbers
  pub numbers_read : decode_spent (part blocks_size spent_size words) ≡ d.spent
  numbers_read =
      ap (λ (w : List ℕ). decode_spent (part blocks_size spent_size w)) h.held ∙ ap decode_spent (spent_part d sizes eight) ∙ decode_spent_lem d.spent (well_numbers d h.good)

  -- a number that may be taken is not live
  pub usable_new : (n : ℕ) → (around d n).unusable ≡ false → record_of n d.places ≡ None
  usable_new n e = of (record_of n d.places) (not_again_lem n d h.good)
    where
      of : (r : Option Stream) → NotAgain (around d n) r → r ≡ None
      of None u = refl
      of (Some b) u = never (sym u ∙ e)

  -- The words stay

  stays : (n : ℕ) → words ≡ encode (put_back n (record_of n d.places) d)
  stays n = h.held ∙ ap encode (sym (put_back_same d h.good n))

  -- an error to a command
  pub error_served : {room room' : List ℕ} {written : ℕ} (n t : ℕ) (f : List ℕ) (e : ErrorCode)
      → reply_of d n (command t f) ≡ fail (record { stream = n; ticket = t; frame = f; self = record_of n d.places }) e
      → Wrote room room' 0 written (plain_bytes t (code e) n) → Served d n (command t f) words room room' 0 written
  error_served n t f e is w = record {
    refusal_is = sym (ap (λ (v : Reply). v.refusal) is);
    words = rw is (stays n);
    bytes = rw is (wrote_plain t n (failure e) refl w);
  }

  -- a report that is refused with k
  pub denied : (room : List ℕ) (n : ℕ) (a : Act) (k : ℕ) {refusal written : ℕ} → (refusal ≡ k) × (written ≡ 0) → reply_of d n a ≡ refuse k (record_of n d.places)
      → Served d n a words room room refusal written
  denied room n a k told is = record {
    refusal_is = told.0 ∙ sym (ap (λ (v : Reply). v.refusal) is);
    words = rw is (stays n);
    bytes = rw (is, told.1) (wrote_none room 0);
  }

  -- The block of a live stream is lent

  module _ (n k : ℕ) (k8 : k < 8) (found : find_stream n d.places ≡ Some k) where
    at : LiveAt n k d.places
    at = stream_found n d.places k found

    good : good_stream at.stream ≡ true
    good = and_right (u32 n) _ (subst (λ (p : Place). good_place p ≡ true) at.at (all_get_d good_place d.places k vacant refl good_places_lem.each))

    holds : BlockOf n (part (512 * k) (512 * k + 512 - 512 * k) words) at.stream
    holds = record { good = good; held = rw (add-sub_cancel_left (512 * k) 512) (block_part d sizes eight words k k8 h.held) ∙ ap place_words at.at }

    pub block_live : LiveBlock n (part (512 * k) (512 * k + 512 - 512 * k) words)
    block_live = record { stream = at.stream; holds = holds }

    -- its number is one that can be taken, and so its mark is a word
    live_number : n < stream_numbers
    live_number =
        let spent = subst (λ (p : Place). spent_in d.spent p ≡ true) at.at (all_get_d (spent_in d.spent) d.places k vacant refl (well_spent d h.good).each) in
        omega (arith, spent_below n d.spent spent, well_numbers d h.good)

    all_sixteen : Sixteen (record_of n d.places)
    all_sixteen = subst Sixteen (sym at.known) (λ q. sized_queue q n at.stream (good_sized (occupied n at.stream) (both (u32_number) good)))
      where
        u32_number : u32 n ≡ true
        u32_number = and_left (u32 n) _ (subst (λ (p : Place). good_place p ≡ true) at.at (all_get_d good_place d.places k vacant refl good_places_lem.each))

    pub in_block : {ys left room room' : List ℕ} {refusal written : ℕ} (a : Act)
        → ((b : Stream) → BlockOf n (part (512 * k) (512 * k + 512 - 512 * k) words) b → Done n (serve (around d n) n (Some b) a) ys room room' refusal written)
        → ((d : Device) (p : Place) → Unsettled (with_part (512 * k) (512 * k + 512 - 512 * k) words ys) d k p → left ≡ encode (with_places (set d.places k p) d))
        → Served d n a left room room' refusal written
    in_block {ys} {left} {room} {room'} {refusal} {written} a done settled =
        let b = at.stream in
        let x = done b holds in
        subst (λ (o : Option Stream). Done n (serve (around d n) n o a) ys room room' refusal written → Served d n a left room room' refusal written)
        at.known
        (λ y. record {
          refusal_is = y.refusal_is;
          words =
              settled d (place n (reply_of d n a).next)
              (record {
                eight = eight;
                sizes = sizes;
                sized = place_sized n (reply_of d n a).next (keeps_sixteen (around d n) n (record_of n d.places) a all_sixteen);
                mark_fits = mark_word_lem n (reply_of d n a).next live_number;
                held = block_lent d sizes eight words k k8 h.held ys (place n (reply_of d n a).next) (λ _. y.replied.words);
              })
              ∙ ap encode (sym (stream_put n k d at good_places_lem.apart (reply_of d n a).next));
          bytes = y.replied.bytes;
        })
        x

  -- A new stream is put into the lowest vacant place, and its number is spent

  module _ (n k : ℕ) (k8 : k < stream_places) (new : record_of n d.places ≡ None) (found : find_vacant d.places ≡ Some k) where
    free : VacantAt k d.places
    free = vacant_found d.places k found

    pub stream_added : {numbers ys : List ℕ} (b : Stream) → Sixteen (Some b) → n < stream_numbers
        → numbers ≡ spent_words (spend n (decode_spent (part blocks_size spent_size words)))
        → (part (place_size * k) (place_size * k + place_size - place_size * k) (with_part blocks_size spent_size words numbers) ≡ place_words vacant → ys ≡ place_words (occupied n b))
        → Unsettled (with_part (place_size * k) (place_size * k + place_size - place_size * k) (with_part blocks_size spent_size words numbers) ys) (with_spent (spend n d.spent) d) k (occupied n b)
    stream_added {numbers} {ys} b all_slots below spends made =
        let s = spend n d.spent in
        let spent : with_part blocks_size spent_size words numbers ≡ encode (with_spent s d) =
        spent_lent d sizes eight words numbers s h.held (λ _. spends ∙ ap (λ (x : List Bool). spent_words (spend n x)) numbers_read) in
        record {
          eight = eight;
          sizes = sizes;
          sized = queue_sized n b all_slots;
          mark_fits = mark_word_lem n (Some b) below;
          held = block_lent (with_spent s d) sizes eight _ k k8 spent ys (occupied n b) (λ e. made (e ∙ ap place_words free.at));
        }

    -- once the figures are settled, it is put back
    pub added_back : (b : Stream) → with_places (set d.places k (occupied n b)) (with_spent (spend n d.spent) d) ≡ put_back n (Some b) d
    added_back b = sym (vacant_put n k b d free new)

  pub created_served : {left room room' : List ℕ} {written : ℕ} (n t : ℕ) (f : List ℕ) (b : Stream) → reply_of d n (command t f) ≡ reply (answer_to t n success ∷ []) (Some b)
      → left ≡ encode (put_back n (Some b) d) → Wrote room room' 0 written (plain_bytes t (response_type success) n) → Served d n (command t f) left room room' 0 written
  created_served n t f b is w bytes = record {
    refusal_is = sym (ap (λ (v : Reply). v.refusal) is);
    words = rw is w;
    bytes = rw is (wrote_plain t n success refl bytes);
  }

-- the stream number as the frame has it
pub of_stream_lem : {d : Device} {n m : ℕ} {a : Act} {left room room' : List ℕ} {refusal written : ℕ} → n ≡ m → Served d n a left room room' refusal written
    → Served d m a left room room' refusal written
of_stream_lem {d} {a = a} {left} {room} {room'} {refusal} {written} e x = subst (λ (k : ℕ). Served d k a left room room' refusal written) e x

-- a number above the last may not be taken
pub above_unusable : (d : Device) (n : ℕ) → stream_numbers ≤ n → true ≡ (around d n).unusable
above_unusable d n h = rw (le-ltb n stream_numbers h)

-- a command's reply has no refusal number
pub answered_command : {n : ℕ} {block room room' : List ℕ} {written : ℕ} (around : Surroundings) (b : Stream) (t : ℕ) (f : List ℕ)
    → Replied n (serve around n (Some b) (command t f)) block room room' written → Done n (serve around n (Some b) (command t f)) block room room' 0 written
unfolding serve
answered_command {n} around b t f x = record { refusal_is = sym (command_answers around (request_to n t f b)); replied = x }

-- a reply by another name
pub replied_as : {n r : ℕ} {v v' : Reply} {w room room' : List ℕ} → v' ≡ v → Replied n v w room room' r → Replied n v' w room room' r
replied_as {n} {r} {w = w} {room = room} {room' = room'} is x = subst (λ v. Replied n v w room room' r) (sym is) x

-- An error that is not written yet

pub not_served : {d : Device} {a : Asked} {f words room : List ℕ} {e : Code} → reply_of d a.stream (command a.ticket f) ≡ fail (record { stream = a.stream; ticket = a.ticket; frame = f; self = record_of a.stream d.places }) (error_meant e)
    → Erred d a f words words room room e
not_served is = record { error = is; words_stay = refl; room_stays = refl }

-- of a command in a live stream's block
pub live_failed : {words : List ℕ} {d : Device} (h : Encodes words d) (a : Asked) (k : ℕ) (k8 : k < 8) → find_stream a.stream d.places ≡ Some k → (f : List ℕ) (c : LiveCommand) {ys room room' : List ℕ} {e : Code} → verdict_for f ≡ right (live c)
    → ((b : Stream) → BlockOf a.stream (part (512 * k) (512 * k + 512 - 512 * k) words) b → Failed (told a f b) (on_live c (told a f b) b) (part (512 * k) (512 * k + 512 - 512 * k) words) ys room room' e)
    → Erred d a f words (with_part (512 * k) (512 * k + 512 - 512 * k) words ys) room room' e
live_failed {words} {d} h a k k8 found f c {e = e} is fails =
    let l = at h a.stream k k8 found in
    let x = fails l.stream (holds h a.stream k k8 found) in
    record {
      error =
          ap (λ (o : Option Stream). serve (around d a.stream) a.stream o (command a.ticket f)) l.known
          ∙ to_live_lem f (around d a.stream) a.stream a.ticket c l.stream is
          ∙ x.error
          ∙ ap (λ (o : Option Stream). fail (record { stream = a.stream; ticket = a.ticket; frame = f; self = o }) (error_meant e)) (sym l.known);
      words_stay = ap (with_part (512 * k) (512 * k + 512 - 512 * k) words) x.block_stays ∙ part_back (512 * k) (512 * k + 512 - 512 * k) words;
      room_stays = x.room_stays;
    }

-- the error is written
pub erred_served : {words words' : List ℕ} {d : Device} (h : Encodes words d) (a : Asked) (f : List ℕ) {room mid room' : List ℕ} {written : ℕ} {e : Code} → Erred d a f words words' room mid e
    → Wrote mid room' 0 written (plain_bytes a.ticket (code (error_meant e)) a.stream) → Served d a.stream (command a.ticket f) words' room room' 0 written
erred_served h a f {room' = room'} {written} {e} x w =
    let s = error_served h a.stream a.ticket f (error_meant e) x.error (subst (λ (r : List ℕ). Wrote r room' 0 written (plain_bytes a.ticket (code (error_meant e)) a.stream)) x.room_stays w) in
    record { refusal_is = s.refusal_is; words = x.words_stay ∙ s.words; bytes = s.bytes }

-- what was tried, by another name of its reply
pub tried_as : (c : Request) {v v' : Reply} (w w' room room' : List ℕ) (r : Result ℕ Code) → v' ≡ v → Tried c v w w' room room' r → Tried c v' w w' room room' r
tried_as c w w' room room' r is x = subst (λ v. Tried c v w w' room room' r) (sym is) x

-- what a search of the places found
module _ {words : List ℕ} {d : Device} (h : Encodes words d) {r : Option ℕ} where
  module _ (n : ℕ) (look : (d : Device) → Encodes words d → r ≡ find_stream n d.places) where
    pub was_found : (k : ℕ) → r ≡ Some k → find_stream n d.places ≡ Some k
    was_found k e = sym (look d h) ∙ e

    pub was_missing : r ≡ None → record_of n d.places ≡ None
    was_missing e = stream_missing n d.places (sym (look d h) ∙ e)

  module _ (look : (d : Device) → Encodes words d → r ≡ find_vacant d.places) where
    pub was_vacant : (k : ℕ) → r ≡ Some k → find_vacant d.places ≡ Some k
    was_vacant k e = sym (look d h) ∙ e

    pub was_full : r ≡ None → no_place d.places ≡ true
    was_full e = vacant_missing d.places (sym (look d h) ∙ e)
