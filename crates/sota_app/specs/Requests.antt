-- What the words of the command line ask for, by the bytes of the words.
use Rattle.std.specs.Prelude.{ℕ, List}
use Rattle.sota_script.specs.declared.command.Ask3.{Ask3}
use Rattle.sota_app.specs.declared.words.TimedAsk.{TimedAsk}

-- 'ask GRAPH HISTS O D T': the two names, and the ask
pub record AskRequest : Type 0 where
  pub graph : List ℕ
  pub hists : List ℕ
  pub ask : Ask3

-- 'GRAPH HISTS NAMES SCRIPT' after 'report': the four names
pub record ReportRequest : Type 0 where
  pub graph : List ℕ
  pub hists : List ℕ
  pub names : List ℕ
  pub script : List ℕ

-- 'GRAPH HISTS FILE': the three names
pub record FileRequest : Type 0 where
  pub graph : List ℕ
  pub hists : List ℕ
  pub file : List ℕ

-- 'GRAPH O D T A HISTS (START HISTS)..' after 'timed': the two names, what is asked, and for each
-- further period its start and the name of its histograms
pub record TimedRequest : Type 0 where
  pub graph : List ℕ
  pub hists : List ℕ
  pub asked : TimedAsk
  pub later : List (ℕ × List ℕ)
