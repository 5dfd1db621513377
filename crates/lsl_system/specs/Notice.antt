-- What is printed on standard error when a command doesn't end well: one line, in words.
use Rattle.std.specs.Prelude.{◌≡◌, ℕ, codes, List, [], ◌++◌, Option, Some, None}
use Rattle.lsl_text.specs.Quoted.{quoted}
use Rattle.lsl_ports.specs.Growth.{Grew}
use Rattle.lsl_top.specs.declared.status.Status.{Status}
use Rattle.lsl_top.specs.declared.status.Status.TheVariants.{Ok, Usage, BadWorld, BadScript}
use Rattle.lsl_top.specs.declared.status.Status.TheVariants.{ReadFault, WriteFault, BadImage, NoMemory, BadNote}

-- what a status means, as a line, in a program of this usage
abbrev pub meaning_of : (usage : List ℕ) → Status → List ℕ
meaning_of usage Ok = []
meaning_of usage Usage = usage
meaning_of usage BadWorld = codes "not in the form of a world file; standard output has the fault (lsl: status 2)\n"
meaning_of usage BadScript = codes "a script isn't accepted; standard output has the fault, tools/explain says it in words (lsl: status 3)\n"
meaning_of usage ReadFault = codes "it, or a file that is named in it or beside it, can't be read (lsl: status 4)\n"
meaning_of usage WriteFault = codes "standard output took no more, and is cut short (lsl: status 5)\n"
meaning_of usage BadImage = codes "not a frozen form of that world; standard output has the fault (lsl: status 6)\n"
meaning_of usage NoMemory = codes "there isn't memory enough (lsl: status 7)\n"
meaning_of usage BadNote = codes "a notecard isn't one; standard output has the fault (lsl: status 8)\n"

-- the words of the command weren't given
abbrev pub no_words : List ℕ
no_words = codes "the command's words can't be read: one isn't UTF-8 (lsl: status 9)\n"

-- the file's name, where there is one, in front of what the status means
abbrev pub named_notice : Option (List ℕ) → List ℕ → List ℕ
named_notice None meaning = meaning
named_notice (Some file) meaning = quoted file ++ (codes ": " ++ meaning)

-- the usage has no file's name
abbrev pub notice_of : (usage : List ℕ) → Status → Option (List ℕ) → List ℕ
notice_of usage Usage named = usage
notice_of usage status named = named_notice named (meaning_of usage status)

-- the notes grew by the line of this status, a usage without the file's name and any other with it; a command that
-- ended well has no line
abbrev pub IsTold : (usage : List ℕ) → Status → Option (List ℕ) → Option (List ℕ) → Option (List ℕ) → Type 0
IsTold usage Ok named old new = new ≡ old
IsTold usage status named old new = Grew old new (notice_of usage status named)
