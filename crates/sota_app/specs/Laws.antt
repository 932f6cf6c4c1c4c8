-- What laws say of replies and of outputs, with an example of three roads.
use Rattle.std.specs.Prelude.{◌≡◌, ◌⊎◌, ℕ, List, [], ◌∷◌, ◌++◌, Option, Some, None, option_map}
use Rattle.std.specs.Prelude.{if◌then◌else◌, codes}
use Rattle.std.specs.Str.{bytes_eq}
use Rattle.sota_edge.specs.Desk.{Files, SameBut}
use Rattle.sota_network.specs.Network.{Net}
use Rattle.sota_session.specs.declared.ask.Ask.{Ask}
use Rattle.sota_app.specs.Outputs.{all_stored}
use Rattle.sota_app.specs.Script.{ScriptLine, session_ask}
use Rattle.sota_app.specs.Meaning.{AskLine, IsAmong, IsAccepted}
use Rattle.sota_app.specs.declared.voice.Voice.{Voice}
use Rattle.sota_app.specs.declared.voice.Voice.TheVariants.{Plain}
use Rattle.sota_app.specs.declared.reply.NamedFile.{NamedFile}

-- this ask stands on one of the lines, and is accepted there
pub record IsAskedIn (voice : Voice) (net : Net) (lines : List ScriptLine) (ask : Ask)
    : Type 0 where
  pub line : AskLine
  pub voice_is : line.voice ≡ voice
  pub net_is : line.net ≡ net
  pub place : IsAmong line lines
  pub ask_is : session_ask line.ask ≡ ask
  pub accepted : IsAccepted line

-- after the files that were stored, of all names only that of the next one holds what is not known
abbrev pub OthersStay : List NamedFile → List NamedFile → Option Files → Option Files → Type 0
OthersStay stored [] old new = ⊥
OthersStay stored (next ∷ left) old new =
    SameBut next.name (option_map (all_stored stored) old) new

-- some first files of these were stored, and no other name changed but the next one's, for a cause
pub record FirstStored (Cause : Type 0) (files : List NamedFile) (old new : Option Files)
    : Type 0 where
  pub stored : List NamedFile
  pub left : List NamedFile
  pub all : files ≡ stored ++ left
  pub held : (new ≡ option_map (all_stored stored) old)
      ⊎ (Cause × OthersStay stored left old new)

-- ---- one ask over roads from 1 to 2 and from 2 to 3 in one tick each, and from 1 to 3 in three

abbrev pub example_words : List (List ℕ)
example_words =
    codes "ask" ∷ codes "g" ∷ codes "-" ∷ codes "1" ∷ codes "3" ∷ codes "2" ∷ []

abbrev pub example_files : Files
example_files name =
    if bytes_eq name (codes "g") then
    Some (codes "p sp 3 3\na 1 2 1\na 2 3 1\na 1 3 3\n")
    else None

abbrev pub example_net : Net
example_net = record {
  nodes = 3;
  scale = 1;
  arcs =
      record { tail = 1; head = 2; time = (1, 1) ∷ [] }
      ∷ record { tail = 2; head = 3; time = (1, 1) ∷ [] }
      ∷ record { tail = 1; head = 3; time = (3, 1) ∷ [] } ∷ [];
}

abbrev pub example_line : AskLine
example_line = record {
  voice = Plain;
  net = example_net;
  above = [];
  number = 1;
  ask = record { origin = 1; dest = 3; budget = 2 };
  below = [];
}
