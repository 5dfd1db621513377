-- The word that the code holds. No public clause cites this.
use Rattle.lsl_lines.specs.Words.{Word, Plain, Quoted}
use Rattle.lsl_lines.specs.declared.words.Form.{Form}
use Rattle.lsl_lines.specs.declared.words.Form.TheVariants.{Plain as PlainForm, Quoted as QuotedForm}

abbrev pub word_of : Form → Word
word_of (PlainForm bytes) = Plain bytes.now
word_of (QuotedForm text) = Quoted text
