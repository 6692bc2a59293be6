-- What is answered for a file.
use Rattle.std.specs.Prelude.{◌≡◌, ℕ, Bool, true, false, List, string_bytes}
use Rattle.taskformat.specs.Reading.{Outcome, accepted, refused, meaning}
use Rattle.sheettext.specs.Printed.{printed}
use Rattle.answer.specs.declared.Reply.{Reply}
use Rattle.answer.specs.declared.Reply.TheVariants as replies

abbrev pub is_accepted : Outcome → Bool
is_accepted (accepted t) = true
is_accepted (refused layer n place) = false

abbrev pub says_accepted : Reply → Bool
says_accepted (replies.Accepted text) = true
says_accepted (replies.Refused text) = false

abbrev pub text_of : Reply → List ℕ
text_of (replies.Accepted text) = string_bytes text
text_of (replies.Refused text) = string_bytes text

-- the text is what is printed for the file, and the file is accepted or not
pub record Answers (file : List ℕ) (a : Reply) : Type 0 where
  pub text : text_of a ≡ printed file
  pub accepted : says_accepted a ≡ is_accepted (meaning file)
