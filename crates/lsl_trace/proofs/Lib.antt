mod Below
mod CopiesRead
mod Endings
