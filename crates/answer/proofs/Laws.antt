-- The bytes that the writers store are those of the model's answers, each with its length.
use mathlib.Core.Path.{◌≡◌, refl, ap, ◌∙◌}
use mathlib.Core.List.{List, [], ◌∷◌, ◌++◌, append_assoc, append-nil}
use Prim.Native.Nat.{ℕ, ◌+◌, ◌*◌, ◌<◌}
use native.Mathlib.Numerals.{add-one}
use native.Mathlib.Omega.{arith}
use lib.ListN.{length, take, get_or}
use lib.Seq.{sets, take-suc, length-take-le}
use Rattle.laws.specs.Stores.{Wrote}
use Rattle.laws.proofs.Stores.{sets_next, sets_four, wrote_append}
use Rattle.field.specs.Field.{little_endian}
use Rattle.field.proofs.Laws.{length_little_endian}
use Rattle.model.specs.Device.{QueueType, Stream, queue_of}
use Rattle.model.specs.Frames.{queue_number}
use Rattle.model.specs.Answers.{Response, buffer_done, parameters, word_bytes, response_type, payload, response_bytes, bytes_of}
use Rattle.model.specs.Commands.{planes, parameter_words}
use Rattle.model.proofs.ReadBack.{length_words, length_parameters}
use Rattle.answer.specs.declared.Parameters.{Parameters}
use Rattle.answer.specs.Answer.{answer_to, plain_bytes, NumbersOf}

-- words after words are words
pub words_append : (xs ys : List ℕ) → word_bytes (xs ++ ys) ≡ word_bytes xs ++ word_bytes ys
words_append [] ys = refl
words_append (x ∷ xs) ys = rw (append_assoc, words_append xs ys)

-- one word more
pub sets_word : (d : List ℕ) {e : List ℕ} (at i : ℕ) (ws : List ℕ) → i < length ws → e ≡ sets d at (word_bytes (take i ws)) → sets e (at + 4 * i) (little_endian 4 (get_or ws i 0)) ≡ sets d at (word_bytes (take (i + 1) ws))
sets_word d at i ws h e =
    let size : length (word_bytes (take i ws)) ≡ 4 * i = length_words (take i ws) ∙ rw (length-take-le i ws (omega arith)) in
    rw (e, add-one i, take-suc ws i 0 h, words_append (take i ws) (get_or ws i 0 ∷ []), append-nil) (sets_next d at (4 * i) (word_bytes (take i ws)) (little_endian 4 (get_or ws i 0)) size)

-- a run of words; words after words
pub wrote_words : (d : List ℕ) {e : List ℕ} {at r : ℕ} (ws : List ℕ) → r ≡ at + 4 * length ws → e ≡ sets d at (word_bytes ws) → Wrote d e at r (word_bytes ws)
wrote_words d ws n e = record { next = n ∙ rw (length_words ws); whole = e }

pub more_words : {d e f : List ℕ} {at m r : ℕ} (xs ys : List ℕ) → Wrote d e at m (word_bytes xs) → r ≡ m + 4 * length ys → f ≡ sets e m (word_bytes ys) → Wrote d f at r (word_bytes (xs ++ ys))
more_words {e = e} xs ys w n f = rw words_append (wrote_append (word_bytes xs) (word_bytes ys) w (wrote_words e ys n f))

-- Plain answers

pub plain_length : (ticket code stream : ℕ) → length (plain_bytes ticket code stream) ≡ 16
unfolding plain_bytes
plain_length ticket code stream = length_words (ticket ∷ 8 ∷ code ∷ stream ∷ [])

-- a response without payload, which is plain success, a drain that ended and an error, is what `put_plain` writes of its type
pub plain_answer : (ticket stream : ℕ) (p : Response) → payload p ≡ [] → plain_bytes ticket (response_type p) stream ≡ bytes_of (answer_to ticket stream p ∷ [])
unfolding plain_bytes response_bytes little_endian
plain_answer ticket stream p e = rw e

pub wrote_plain : {d e : List ℕ} {at r : ℕ} (ticket stream : ℕ) (p : Response) → payload p ≡ [] → Wrote d e at r (plain_bytes ticket (response_type p) stream) → Wrote d e at r (bytes_of (answer_to ticket stream p ∷ []))
wrote_plain ticket stream p h w = rw (plain_answer ticket stream p h) at w

-- Answers to buffers

pub buffer_length : (ticket stream ts flags : ℕ) (q : QueueType) → length (bytes_of (answer_to ticket stream (buffer_done q ts flags) ∷ [])) ≡ 32
unfolding response_bytes little_endian
buffer_length ticket stream ts flags q = refl

pub buffer_answer : (ticket stream ts flags : ℕ) (q : QueueType)
    → word_bytes (ticket ∷ 24 ∷ response_type (buffer_done q ts flags) ∷ stream ∷ []) ++ (little_endian 8 ts ++ word_bytes (flags ∷ 0 ∷ [])) ≡ bytes_of (answer_to ticket stream (buffer_done q ts flags) ∷ [])
unfolding response_bytes little_endian
buffer_answer ticket stream ts flags q = refl

-- the same of four runs of stores
buffer_bytes : (ticket stream ts flags : ℕ) (q : QueueType)
    → word_bytes (ticket ∷ 24 ∷ response_type (buffer_done q ts flags) ∷ stream ∷ []) ++ (little_endian 8 ts ++ (little_endian 4 flags ++ little_endian 4 0)) ≡ bytes_of (answer_to ticket stream (buffer_done q ts flags) ∷ [])
unfolding response_bytes little_endian
buffer_bytes ticket stream ts flags q = refl

pub sets_buffer : (d : List ℕ) {d₁ d₂ d₃ d₄ : List ℕ} (at ticket stream ts flags : ℕ) (q : QueueType)
    → d₁ ≡ sets d at (word_bytes (ticket ∷ 24 ∷ response_type (buffer_done q ts flags) ∷ stream ∷ [])) → d₂ ≡ sets d₁ (at + 16) (little_endian 8 ts) → d₃ ≡ sets d₂ (at + 24) (little_endian 4 flags) → d₄ ≡ sets d₃ (at + 28) (little_endian 4 0)
    → d₄ ≡ sets d at (bytes_of (answer_to ticket stream (buffer_done q ts flags) ∷ []))
sets_buffer d at ticket stream ts flags q x y z w =
    let head = ticket ∷ 24 ∷ response_type (buffer_done q ts flags) ∷ stream ∷ [] in
    let h : length (word_bytes head) ≡ 16 = length_words head in
    let l : length (little_endian 8 ts) ≡ 8 = length_little_endian 8 ts in
    let m : length (little_endian 4 flags) ≡ 4 = length_little_endian 4 flags in
    sets_four d at 16 24 28 (word_bytes head) (little_endian 8 ts) (little_endian 4 flags) (little_endian 4 0) h (omega arith) (omega arith) x y z w
    ∙ ap (sets d at) (buffer_bytes ticket stream ts flags q)

-- Answers to a get

-- 28 words in either queue, 120 bytes with the answer's type and the stream number
words_answer : (ticket stream : ℕ) (ws : List ℕ) → length ws ≡ 28 → word_bytes (ticket ∷ 120 ∷ response_type (parameters ws) ∷ stream ∷ ws) ≡ bytes_of (answer_to ticket stream (parameters ws) ∷ [])
unfolding response_bytes little_endian
words_answer ticket stream ws h =
    let n : length (word_bytes ws) ≡ 112 = length_words ws ∙ (omega arith) in
    rw (append-nil, n)

pub parameters_answer : {queue : ℕ} {kept : Parameters} (ticket stream : ℕ) (q : QueueType) (b : Stream) → queue ≡ queue_number q → NumbersOf q b kept
    → word_bytes (ticket ∷ 120 ∷ response_type (parameters (parameter_words q b)) ∷ stream ∷ queue ∷ kept.format ∷ kept.width ∷ kept.height ∷ 1 ∷ 16 ∷ 0 ∷ 0 ∷ kept.width ∷ kept.height ∷ kept.rate ∷ planes q (queue_of q b)) ≡ bytes_of (answer_to ticket stream (parameters (parameter_words q b)) ∷ [])
unfolding parameter_words
parameters_answer ticket stream q b e s =
    rw (e, s.is_format, s.is_width, s.is_height, s.is_rate) (words_answer ticket stream (parameter_words q b) (length_parameters q b))
