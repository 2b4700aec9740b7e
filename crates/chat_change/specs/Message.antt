-- A message as its line spells it: how it was sent, by whom, to whom, and what it says.
use Rattle.std.specs.Prelude.{ℕ, ◌≡◌, true, List, [], ◌∷◌, ◌++◌, ◌≤◌, codes, length}
use Rattle.chat_change.specs.declared.message.Kind.{Kind}
use Rattle.chat_change.specs.declared.message.Kind.TheVariants.{Privmsg, Notice}
use Rattle.chat_change.specs.declared.message.TheConstants.{LINE_LIMIT}
use Rattle.chat_change.specs.declared.message.Message as code
use Rattle.chat_change.specs.Words.{is_target, is_source, is_body}

pub record Message : Type 0 where
  pub kind : Kind
  pub source : List ℕ
  pub target : List ℕ  -- as it was spelled
  pub body : List ℕ

-- the message that a value of the code's type stands for
abbrev pub value_of : code.Message → Message
value_of m = record {
  kind = m.kind;
  source = m.source.now;
  target = m.target.now;
  body = m.body.now;
}

-- the letter of a kind, `N` or `P`
abbrev pub kind_letter : Kind → ℕ
kind_letter Notice = 78
kind_letter Privmsg = 80

-- the command of a kind
abbrev pub kind_word : Kind → List ℕ
kind_word Notice = codes "NOTICE"
kind_word Privmsg = codes "PRIVMSG"

-- the line of a message, `:source KIND target :body`, without its ending
abbrev pub line_of : Message → List ℕ
line_of m =
    codes ":" ++ (m.source ++
    (codes " " ++ (kind_word m.kind ++
    (codes " " ++ (m.target ++
    (codes " :" ++ m.body))))))

-- the same with its ending, CR LF: as it goes out
abbrev pub sent_line : Message → List ℕ
sent_line m = line_of m ++ codes "\r\n"

-- the message has the source, the target and the body of a line, and its line is not too long
pub record IsLawfulMessage (m : Message) : Type 0 where
  pub lawful_source : is_source m.source ≡ true
  pub lawful_target : is_target m.target ≡ true
  pub lawful_body : is_body m.body ≡ true
  pub within_limit : length (line_of m) ≤ LINE_LIMIT

-- the texts by which messages are compared: the letter of the kind, the source, the target and the body
abbrev pub message_texts : Message → List (List ℕ)
message_texts m = (kind_letter m.kind ∷ []) ∷ m.source ∷ m.target ∷ m.body ∷ []
