-- How a call from C ends: its reply, and what it writes.
use Rattle.std.specs.Prelude.{◌≡◌, ℕ, Bool, false, if◌then◌else◌, List, [], ◌++◌, codes, length, take, drop}
use Rattle.std.specs.Fmt.{decimal}
use Rattle.std.specs.Str.{is_utf8}
use Rattle.std.specs.Str.Lossy.{utf8_valid_len}
use Rattle.reqs_c_reply.specs.declared.place.Place.{Place}
use Rattle.reqs_c_reply.specs.declared.reply.Reply.{Reply}
use Rattle.reqs_c_reply.specs.declared.ended.Ended.{Ended}
use Rattle.reqs_c_reply.specs.declared.ended.Ended.TheVariants as ended

-- answered with a text; two lists that were compared differ, with a text; an input is refused at a place,
-- with a text; or memory ran out
pub data Ending : Type 0 where
  Answered : List ℕ → Ending
  Different : List ℕ → Ending
  Refused : Place → List ℕ → Ending
  OutOfMemory : Ending

abbrev pub ending_of : Ended → Ending
ending_of (ended.Answered text) = Answered text.items
ending_of (ended.Different text) = Different text.items
ending_of (ended.Refused place text) = Refused place text.items
ending_of ended.OutOfMemory = OutOfMemory

-- an answer of which this holds, or a refusal of which that holds; memory may run out at any time
abbrev pub EndsIn : (List ℕ → Type 0) → (Place → List ℕ → Type 0) → Ending → Type 0
EndsIn Answers Refuses (Answered text) = Answers text
EndsIn Answers Refuses (Different text) = ⊥
EndsIn Answers Refuses (Refused place text) = Refuses place text
EndsIn Answers Refuses OutOfMemory = Unit {0}

-- no answer
abbrev pub NoAnswer : List ℕ → Type 0
NoAnswer text = ⊥

-- no refusal
abbrev pub NoRefusal : Place → List ℕ → Type 0
NoRefusal place message = ⊥

-- the answer to a yes-or-no question
abbrev pub yes_or_no : Bool → List ℕ
yes_or_no answer = if answer then codes "1" else codes "0"

-- ---- places

-- no place: all numbers are 0
abbrev pub nowhere : Place
nowhere = record { input = 0; line = 0; start = 0; len = 0 }

-- `len` bytes of the argument of a number, from `start` on
abbrev pub span : ℕ → ℕ → ℕ → Place
span input start len = record { input = input; line = 0; start = start; len = len }

-- the message for bytes that are not UTF-8 from this one on, counted from 0
abbrev pub not_text_message : ℕ → List ℕ
not_text_message offset = codes "not UTF-8 at byte " ++ decimal offset

-- the argument of this number is refused, since its bytes are not UTF-8
pub record IsNotText (input : ℕ) (bytes : List ℕ) (place : Place) (message : List ℕ) : Type 0 where
  pub no_text : is_utf8 bytes ≡ false
  pub stops : place ≡ span input (utf8_valid_len bytes) 0
  pub says : message ≡ not_text_message (utf8_valid_len bytes)

-- ---- replies

-- a reply with this status, and with the length of the whole text
abbrev pub reply_with : ℕ → Place → ℕ → Reply
reply_with status place length = record {
  status = status;
  input = place.input;
  length = length;
  line = place.line;
  start = place.start;
  len = place.len;
}

abbrev pub reply_of : Ending → Reply
reply_of (Answered text) = reply_with 0 nowhere (length text)
reply_of (Different text) = reply_with 1 nowhere (length text)
reply_of (Refused place text) = reply_with 2 place (length text)
reply_of OutOfMemory = reply_with 3 nowhere 0

abbrev pub text_of : Ending → List ℕ
text_of (Answered text) = text
text_of (Different text) = text
text_of (Refused place text) = text
text_of OutOfMemory = []

-- a buffer with a text in it: the prefix of the text that fits, and then the buffer as it was
abbrev pub written : List ℕ → List ℕ → List ℕ
written text buffer = take (length buffer) text ++ drop (length text) buffer

-- a call ends in one of the ways of which this holds: this is its reply, and its buffer has its text
pub record RepliesAs (Ends : Ending → Type 0) (old new : List ℕ) (reply : Reply) : Type 0 where
  pub ending : Ending
  pub ends : Ends ending
  pub replies : reply ≡ reply_of ending
  pub writes : new ≡ written (text_of ending) old
