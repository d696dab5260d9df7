-- What a call for a text is to answer in a lent buffer.
use Rattle.std.specs.Prelude.{◌≡◌, ℕ, List, [], ◌++◌, Result, Ok, Err, cond, nat_lt, length}
use Rattle.std.specs.List.{All}
use Rattle.std.specs.Borrow.{Bor}
use Rattle.replaying.specs.declared.expected.Refused.{Refused}

-- The text, and then zeros.
pub record Holds (b t : List ℕ) : Type 0 where
  pub rest : List ℕ
  pub begins : b ≡ t ++ rest
  pub zeros : All (λ x. x ≡ 0) rest

-- What is expected, by value.
abbrev pub text_of : Result (Bor (List ℕ)) Refused → Result (List ℕ) Refused
text_of (Ok t) = Ok t.now
text_of (Err why) = Err why

-- The same in a buffer of n bytes: 6 where the text has no room.
abbrev pub text_in : Result (List ℕ) Refused → ℕ → Result (List ℕ) Refused
text_in (Ok t) n = cond (nat_lt n (length t)) (Err (record { number = 6; reason = 0 })) (Ok t)
text_in (Err why) n = Err why

-- The length of the text, in a buffer that holds it and then zeros; or why there is none, in a buffer of zeros.
abbrev pub Answers : Result (List ℕ) Refused → Result ℕ Refused → List ℕ → Type 0
Answers (Ok t) came b = (came ≡ Ok (length t)) × Holds b t
Answers (Err why) came b = (came ≡ Err why) × Holds b []
